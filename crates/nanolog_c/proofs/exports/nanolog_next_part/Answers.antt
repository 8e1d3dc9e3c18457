use mir.Val.{to_z, of_z}
use Rattle.std.proofs.Common.{◌≡◌, Option, Result, ◌∙◌, w32}
use Rattle.std.proofs.lemmas.Int.{to_z-of_z}
use Rattle.log_ends.specs.declared.parting.PartRefusal.{PartRefusal}
use Rattle.log_ends.specs.declared.end.End.TheVariants as ends
use Rattle.log_ends.specs.Slots.{consumer_in}
use Rattle.nanolog_c.specs.Codes.{part_code}
use Rattle.nanolog_c.proofs.Through.{answered, unanswered, through}
use Rattle.nanolog_c.proofs.exports.nanolog_next_part.Goals as goal

pub returns : goal.returns
returns c =
    through ends.Consumer consumer_in _ _ _ _ _ _ _ _ c.take-end.ensures.value c.put.ensures (λ old new. answered c.end_part-outcome.result Is _ code) (unanswered c.end_part-outcome.result Is code) c.end_part-outcome.ensures
  where
    Is : Option (Result (Unit {0}) PartRefusal) → Type 0
    Is outcome = to_z w32 (of_z w32 c.part_answer.result) ≡ part_code outcome

    code : Is c.end_part-outcome.result
    code = to_z-of_z w32 c.part_answer.result (record { sfits = c.part_answer.type_inv }) ∙ c.part_answer.ensures
