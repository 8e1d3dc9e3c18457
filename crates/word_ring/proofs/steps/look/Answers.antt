use Rattle.std.proofs.Common.{arith}
use Rattle.word_ring.proofs.SeatSteps.{looks}
use Rattle.word_ring.proofs.steps.look.Goals as goal

pub load-requires : goal.load-requires
load-requires c = (c.requires.seat.one, omega (arith, c.requires.seat.words), looks _ _ _ c.args.seat.now.me c.requires.writes c.requires.not_barred)
