use Rattle.std.proofs.Common.{◌≡◌}
use Rattle.nl_io.specs.TextWriters.{Carries}
use Rattle.trace_commands.proofs.CallLines.{first_lines}
use Rattle.trace_commands.proofs.lines.print_places.Given as goal

-- the lines of the calls so far are on their way, and no call failed
abbrev pub invariant-loop-place : goal.invariant-loop-place
invariant-loop-place g l = record {
  carries : Carries (first_lines l.run l.place-index) (g.O.Sink.put l.fn.out) (g.O.Sink.put l.out) l.writer;
  counted : g.O.Sink.faults l.out ≡ g.O.Sink.faults l.fn.out;
  others : g.O.Sink.rest l.fn.out l.out;
}
