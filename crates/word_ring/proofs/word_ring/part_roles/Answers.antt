use Rattle.std.proofs.Common.{arith}
use Rattle.word_ring.proofs.SeatSteps.{parts}
use Rattle.word_ring.proofs.word_ring.part_roles.Goals as goal

pub split_seat-requires : goal.split_seat-requires
split_seat-requires g c = (c.requires.seat.one, omega (arith, c.requires.seat.words), parts _ _ _ _ c.requires.new)
