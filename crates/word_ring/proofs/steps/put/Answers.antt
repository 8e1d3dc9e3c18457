use Rattle.std.proofs.Common.{◌<◌, arith}
use Rattle.std.proofs.Math.Nat.{mod-lt}
use Rattle.word_ring.specs.Plays.{written_by}
use Rattle.word_ring.proofs.SeatSteps.{puts}
use Rattle.word_ring.proofs.steps.put.Goals as goal

pub overflow_add-place : goal.overflow_add-place
overflow_add-place c =
    let v = c.args.seat.now.me.0 in
    let r = c.requires in
    omega (arith, r.place, r.size.most, mod-lt (written_by v).at {m = v.size} (omega (arith, r.size.least)))

pub store-requires : goal.store-requires
store-requires c =
    let v = c.args.seat.now.me.0 in
    let r = c.requires in
    let inside : c.args.place < v.size = omega (arith, r.place, mod-lt (written_by v).at {m = v.size} (omega (arith, r.size.least))) in
    (r.seat.one, omega (arith, r.seat.words, inside), puts _ _ _ c.args.place c.args.word c.args.seat.now.me r.writes r.place r.not_barred r.lawful)
