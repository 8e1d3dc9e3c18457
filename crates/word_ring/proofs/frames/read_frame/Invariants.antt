use Rattle.word_ring.specs.Seats.{view, IsSeatOf, IsSameSeat}
use Rattle.word_ring.proofs.Reading.{HasReadWords}
use Rattle.word_ring.proofs.frames.read_frame.Given as goal

abbrev pub invariant-loop-i : goal.invariant-loop-i
invariant-loop-i l = record {
  seat : IsSeatOf (view l.seat).size l.table l.seat;
  same : IsSameSeat l.fn.seat l.seat;
  read : HasReadWords (view l.fn.seat) (view l.seat) l.head l.into l.i;
}
