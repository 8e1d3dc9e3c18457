use Rattle.word_ring.specs.Seats.{view, IsSeatOf, IsSameSeat}
use Rattle.word_ring.proofs.Storing.{HasStoredWords}
use Rattle.word_ring.proofs.frames.put_frame.Given as goal

abbrev pub invariant-loop-i : goal.invariant-loop-i
invariant-loop-i l = record {
  seat : IsSeatOf (view l.seat).size l.table l.seat;
  same : IsSameSeat l.fn.seat l.seat;
  stored : HasStoredWords (view l.fn.seat) (view l.seat) l.frame l.i;
}
