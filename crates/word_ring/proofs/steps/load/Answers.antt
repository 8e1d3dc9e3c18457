use Rattle.std.proofs.Common.{arith}
use Rattle.word_ring.proofs.SeatSteps.{loads}
use Rattle.word_ring.proofs.steps.load.Goals as goal

pub load-requires : goal.load-requires
load-requires c = (c.requires.seat.one, omega (arith, c.requires.seat.words), loads _ _ _ c.args.seat.now.me c.requires.reads)
