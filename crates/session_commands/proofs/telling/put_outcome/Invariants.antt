use Rattle.std.proofs.Common.{◌≡◌}
use Rattle.std.specs.Slice.Iter.{iter_rest}
use Rattle.session_commands.proofs.OutcomeTexts.{DropsCarried}
use Rattle.session_commands.proofs.telling.put_outcome.Given as goal

-- the lines on the drops so far are on their way, and no call failed
abbrev pub invariant-loop-drop : goal.invariant-loop-drop
invariant-loop-drop g l = record {
  carried : DropsCarried l.drops (iter_rest l.drop-iterator) (g.O.Sink.put l.fn.out) (g.O.Sink.put l.out) l.writer;
  counted : g.O.Sink.faults l.out ≡ g.O.Sink.faults l.fn.out;
  others : g.O.Sink.rest l.fn.out l.out;
}
