use Rattle.std.proofs.Common.{ℕ, [], length}
use Rattle.trace_text.specs.Reading.{messages}
use Rattle.trace_text.specs.Progress.{progress, Leads}
use Rattle.trace_text.specs.Canonical.{HaveMessageLines}
use Rattle.trace_text.proofs.reading.read_front.Given as goal

abbrev pub invariant-loop-line : goal.invariant-loop-line
invariant-loop-line l = record {
  led : (version : ℕ) → Leads (progress (messages version []) l.fn.lines) (progress (messages version l.dictionary) l.lines);
  lines : HaveMessageLines l.dictionary;
}

abbrev pub decreases-loop-line : goal.decreases-loop-line
decreases-loop-line l = length l.lines.bytes.now
