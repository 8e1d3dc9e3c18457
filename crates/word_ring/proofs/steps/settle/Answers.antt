use Rattle.std.proofs.Common.{arith}
use Rattle.word_ring.proofs.SeatSteps.{settles}
use Rattle.word_ring.proofs.steps.settle.Goals as goal

pub load-requires : goal.load-requires
load-requires c = (c.requires.seat.one, omega (arith, c.requires.seat.words), settles _ _ _ c.args.seat.now.me c.requires.writes c.requires.reads)
