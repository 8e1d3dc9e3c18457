use Rattle.roaming_consumer.specs.Parting.{IsAnew}
use Rattle.roaming_consumer.proofs.lemmas.FrontChanges.{ChangesFront}
use Rattle.roaming_consumer.proofs.parting.begin_each.Given as goal

abbrev pub invariant-loop-end : goal.invariant-loop-end
invariant-loop-end g l =
    ChangesFront (λ before after. IsAnew g.S.StageOut.got g.S.StageOut.plan before after × g.S.PartOut.begins_part before after) l.end-index l.fn.ends l.ends
