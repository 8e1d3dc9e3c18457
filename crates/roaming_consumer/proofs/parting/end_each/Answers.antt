use Rattle.std.proofs.Common.{get_or, arith}
use Rattle.std.proofs.lemmas.Option.{slice_get-get_or}
use Rattle.roaming_consumer.specs.Parting.{IsStopped}
use Rattle.roaming_consumer.proofs.lemmas.OnePlace.{zip_weaker}
use Rattle.roaming_consumer.proofs.lemmas.FrontChanges.{changes_more, changes_long, changes_all}
use Rattle.roaming_consumer.proofs.parting.end_each.Goals as goal

pub loop-end-preserved : goal.loop-end-preserved
loop-end-preserved g c =
    let e = c.end_part.ensures in
    changes_more (λ before after. IsStopped g.S.StageOut.got g.S.StageOut.ended g.S.StageOut.plan before after × g.S.PartOut.ends_part before after) c.loop-end.end-index c.args.ends.now c.loop-end.ends (get_or c.loop-end.ends c.loop-end.end-index c.end-item.result) c.end_part.new.self c.loop-end.invariant (slice_get-get_or c.loop-end.ends c.loop-end.end-index c.end-item.result (omega (arith, c.loop-end-test.true, changes_long _ _ _ _ c.loop-end.invariant))) (e.held, e.ends)

pub returns-clause-held : goal.returns-clause-held
returns-clause-held g c =
    zip_weaker _ (IsStopped g.S.StageOut.got g.S.StageOut.ended g.S.StageOut.plan) c.args.ends.now c.loop-end.ends (λ before after both. both.0) (changes_all _ c.loop-end.end-index c.args.ends.now c.loop-end.ends (omega (arith, c.loop-end-test.false, changes_long _ _ _ _ c.loop-end.invariant)) c.loop-end.invariant)

pub returns-clause-ends : goal.returns-clause-ends
returns-clause-ends g c =
    zip_weaker _ g.S.PartOut.ends_part c.args.ends.now c.loop-end.ends (λ before after both. both.1) (changes_all _ c.loop-end.end-index c.args.ends.now c.loop-end.ends (omega (arith, c.loop-end-test.false, changes_long _ _ _ _ c.loop-end.invariant)) c.loop-end.invariant)

pub returns-clause-count : goal.returns-clause-count
returns-clause-count g c = changes_long _ _ _ _ c.loop-end.invariant
