use mir.Val.{to_z, of_z}
use Rattle.std.proofs.Common.{◌≡◌, Option, ◌∙◌, w64}
use Rattle.std.proofs.lemmas.Int.{to_z-of_z}
use Rattle.log_ends.specs.declared.consumer.Pumped.{Pumped}
use Rattle.log_ends.specs.declared.end.End.TheVariants as ends
use Rattle.log_ends.specs.Slots.{consumer_in}
use Rattle.nanolog_c.specs.Codes.{pump_code}
use Rattle.nanolog_c.proofs.Through.{answered, unanswered, through}
use Rattle.nanolog_c.proofs.exports.nanolog_pump.Goals as goal

pub returns : goal.returns
returns c =
    through ends.Consumer consumer_in _ _ _ _ _ _ _ _ c.take-end.ensures.value c.put.ensures
    (λ old new. answered c.pump_log-outcome.result Is _ code)
    (λ other. (unanswered c.pump_log-outcome.result Is code other.0, other.1)) c.pump_log-outcome.ensures.pumps
  where
    Is : Option Pumped → Type 0
    Is outcome = to_z w64 (of_z w64 c.pump_answer.result) ≡ pump_code outcome

    code : Is c.pump_log-outcome.result
    code = to_z-of_z w64 c.pump_answer.result (record { sfits = c.pump_answer.type_inv }) ∙ c.pump_answer.ensures
