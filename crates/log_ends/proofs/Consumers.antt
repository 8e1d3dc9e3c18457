-- What a consumer keeps from call to call.
use Rattle.std.proofs.Common.{◌≡◌, List, subst, sym}
use Rattle.std.specs.Prelude.{All}
use Rattle.ring_core.specs.Plans.{Plan, plan_of}
use Rattle.roaming_consumer.specs.declared.roamer.Roamer.{Roamer}
use Rattle.roaming_consumer.specs.Roamers.{ends_of, plan_of_roamer, ArePlanned, IsSameRun}

-- with the same ends in the same run
pub planned_same : {S : Type 0} (plan : S → Plan) (old new : Roamer S) → ends_of new ≡ ends_of old → IsSameRun old new → ArePlanned plan old → ArePlanned plan new
planned_same {S} plan old new same_ends same_run planned =
    let same_plan : plan_of_roamer new ≡ plan_of_roamer old = λ i. plan_of (same_run.messages i) (same_run.clock i).tick in
    subst (λ (pair : List S × Plan). All (λ (end : S). plan end ≡ pair.1) pair.0) (λ i. (sym same_ends i, sym same_plan i)) planned
