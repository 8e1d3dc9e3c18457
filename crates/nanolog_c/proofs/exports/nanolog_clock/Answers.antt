use mir.Val.{to_z, of_z}
use Rattle.std.proofs.Common.{◌≡◌, Option, Result, ◌∙◌, w32}
use Rattle.std.proofs.lemmas.Int.{to_z-of_z}
use Rattle.roaming_consumer.specs.declared.clocks.ClockRefusal.{ClockRefusal}
use Rattle.log_ends.specs.declared.end.End.TheVariants as ends
use Rattle.log_ends.specs.Slots.{consumer_in}
use Rattle.nanolog_c.specs.Codes.{clock_code}
use Rattle.nanolog_c.proofs.Through.{answered, unanswered, through}
use Rattle.nanolog_c.proofs.exports.nanolog_clock.Goals as goal

pub returns : goal.returns
returns c =
    through ends.Consumer consumer_in _ _ _ _ _ _ _ _ c.take-end.ensures.value c.put.ensures (λ old new. answered c.tell_clock-outcome.result Is _ code) (unanswered c.tell_clock-outcome.result Is code) c.tell_clock-outcome.ensures
  where
    Is : Option (Result (Unit {0}) ClockRefusal) → Type 0
    Is outcome = to_z w32 (of_z w32 c.clock_answer.result) ≡ clock_code outcome

    code : Is c.tell_clock-outcome.result
    code = to_z-of_z w32 c.clock_answer.result (record { sfits = c.clock_answer.type_inv }) ∙ c.clock_answer.ensures
