use Rattle.std.proofs.Common.{List, length}
use Rattle.log_dictionary.specs.declared.message.Message.{Message}
use Rattle.session_options.specs.Versions.{MayHaveClocks}
use Rattle.trace_text.specs.Reading.{clocks}
use Rattle.trace_text.specs.Progress.{progress, Leads}
use Rattle.trace_text.proofs.reading.read_clocks.Given as goal

abbrev pub invariant-loop-line : goal.invariant-loop-line
invariant-loop-line l = record {
  led : (messages : List Message) → Leads (progress (clocks l.version messages l.fn.clocks) l.fn.lines) (progress (clocks l.version messages l.clocks) l.lines);
  may : MayHaveClocks l.version l.clocks;
}

abbrev pub decreases-loop-line : goal.decreases-loop-line
decreases-loop-line l = length l.lines.bytes.now
