use Rattle.roaming_consumer.specs.Parting.{IsStopped}
use Rattle.roaming_consumer.proofs.lemmas.FrontChanges.{ChangesFront}
use Rattle.roaming_consumer.proofs.parting.end_each.Given as goal

abbrev pub invariant-loop-end : goal.invariant-loop-end
invariant-loop-end g l =
    ChangesFront (λ before after. IsStopped g.S.StageOut.got g.S.StageOut.ended g.S.StageOut.plan before after × g.S.PartOut.ends_part before after) l.end-index l.fn.ends l.ends
