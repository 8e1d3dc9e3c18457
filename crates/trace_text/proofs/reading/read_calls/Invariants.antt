use Rattle.std.proofs.Common.{◌≡◌, length}
use Rattle.std.specs.Prelude.{sum_by}
use Rattle.trace_text.specs.Reading.{calls}
use Rattle.trace_text.specs.Progress.{progress, Leads}
use Rattle.trace_text.proofs.reading.read_calls.Given as goal

abbrev pub invariant-loop-line : goal.invariant-loop-line
invariant-loop-line l = record {
  counted : l.calls ≡ sum_by length l.run.writers;
  led : Leads (progress (calls l.fn.run) l.fn.lines) (progress (calls l.run) l.lines);
}

abbrev pub decreases-loop-line : goal.decreases-loop-line
decreases-loop-line l = length l.lines.bytes.now
