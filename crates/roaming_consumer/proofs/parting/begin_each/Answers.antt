use Rattle.std.proofs.Common.{get_or, arith}
use Rattle.std.proofs.lemmas.Option.{slice_get-get_or}
use Rattle.roaming_consumer.specs.Parting.{IsAnew}
use Rattle.roaming_consumer.proofs.lemmas.OnePlace.{zip_weaker}
use Rattle.roaming_consumer.proofs.lemmas.FrontChanges.{changes_more, changes_long, changes_all}
use Rattle.roaming_consumer.proofs.parting.begin_each.Goals as goal

pub loop-end-preserved : goal.loop-end-preserved
loop-end-preserved g c =
    let e = c.begin_part.ensures in
    changes_more (λ before after. IsAnew g.S.StageOut.got g.S.StageOut.plan before after × g.S.PartOut.begins_part before after) c.loop-end.end-index c.args.ends.now c.loop-end.ends (get_or c.loop-end.ends c.loop-end.end-index c.end-item.result) c.begin_part.new.self c.loop-end.invariant (slice_get-get_or c.loop-end.ends c.loop-end.end-index c.end-item.result (omega (arith, c.loop-end-test.true, changes_long _ _ _ _ c.loop-end.invariant))) (e.anew, e.begins)

pub returns-clause-anew : goal.returns-clause-anew
returns-clause-anew g c =
    zip_weaker _ (IsAnew g.S.StageOut.got g.S.StageOut.plan) c.args.ends.now c.loop-end.ends (λ before after both. both.0) (changes_all _ c.loop-end.end-index c.args.ends.now c.loop-end.ends (omega (arith, c.loop-end-test.false, changes_long _ _ _ _ c.loop-end.invariant)) c.loop-end.invariant)

pub returns-clause-begins : goal.returns-clause-begins
returns-clause-begins g c =
    zip_weaker _ g.S.PartOut.begins_part c.args.ends.now c.loop-end.ends (λ before after both. both.1) (changes_all _ c.loop-end.end-index c.args.ends.now c.loop-end.ends (omega (arith, c.loop-end-test.false, changes_long _ _ _ _ c.loop-end.invariant)) c.loop-end.invariant)

pub returns-clause-count : goal.returns-clause-count
returns-clause-count g c = changes_long _ _ _ _ c.loop-end.invariant
