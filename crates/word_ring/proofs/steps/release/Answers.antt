use Rattle.std.proofs.Common.{arith}
use Rattle.word_ring.proofs.SeatSteps.{releases}
use Rattle.word_ring.proofs.steps.release.Goals as goal

pub store-requires : goal.store-requires
store-requires c =
    let r = c.requires in
    (r.seat.one, omega (arith, r.seat.words), releases _ _ _ c.args.at c.args.seat.now.me r.reads r.not_barred r.at)
