use Rattle.std.proofs.Common.{arith}
use Rattle.word_ring.proofs.SeatSteps.{closes}
use Rattle.word_ring.proofs.steps.close.Goals as goal

pub store-requires : goal.store-requires
store-requires c =
    let r = c.requires in
    (r.seat.one, omega (arith, r.seat.words), closes _ _ _ _ c.args.seat.now.me r.writes r.not_barred (omega (arith, r.at.0)))
