use Rattle.std.proofs.Common.{◌≡◌, ◌≤◌, ◌-◌, length}
use Rattle.schedule_text.proofs.Texts.{RingsCarried}
use Rattle.schedule_text.proofs.printing.put_rings.Given as goal

-- the lines of the rings so far are put or held back
abbrev pub invariant-loop-ring : goal.invariant-loop-ring
invariant-loop-ring g l = record {
  within : l.ring ≤ length l.rings;
  carried : RingsCarried l.fn.writer l.rings l.ring (g.O.Sink.put l.fn.out) (g.O.Sink.put l.out) l.writer;
  counted : g.O.Sink.faults l.out ≡ g.O.Sink.faults l.fn.out;
  others : g.O.Sink.rest l.fn.out l.out;
}

abbrev pub decreases-loop-ring : goal.decreases-loop-ring
decreases-loop-ring g l = length l.rings - l.ring
