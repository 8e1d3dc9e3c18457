use Rattle.std.proofs.Common.{◌≡◌, length, set, ◌/◌, arith}
use Rattle.std.proofs.lemmas.Grind.{common_steps}
use Rattle.std.proofs.lemmas.Bool.{cases_eq}
use Rattle.std.proofs.lemmas.List.{get_or_default, length-set}
use Rattle.stamp_merge.proofs.merger.play.Goals as goal

pub loop-place-preserved : goal.loop-place-preserved
loop-place-preserved c =
    let keys = c.loop-place.winners in
    let place = c.loop-place.place / 2 in
    let long : length (set keys place c.earlier.result) ≡ length keys = length-set keys place c.earlier.result in
    let won = c.earlier.ensures in
    record {
      there = omega arith;
      others = λ n some within apart. grind (arith, common_steps, get_or_default, cases_eq n place, c.loop-place.invariant.others n some);
      keys = λ n last. grind (arith, common_steps, c.loop-place.invariant.keys n);
    }
