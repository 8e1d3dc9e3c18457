use mir.Val.{to_z, of_z}
use Rattle.std.proofs.Common.{◌≡◌, Option, Bool, ◌∙◌, w32}
use Rattle.std.proofs.lemmas.Int.{to_z-of_z}
use Rattle.log_ends.specs.declared.end.End.TheVariants as ends
use Rattle.log_ends.specs.Slots.{writer_in}
use Rattle.nanolog_c.specs.Codes.{finish_code}
use Rattle.nanolog_c.proofs.Through.{answered, unanswered, through}
use Rattle.nanolog_c.proofs.exports.nanolog_finish.Goals as goal

pub returns : goal.returns
returns c =
    through ends.Writer writer_in _ _ _ _ _ _ _ _ c.take-end.ensures.value c.put.ensures (λ old new. answered c.finish_writer-outcome.result Is _ code) (unanswered c.finish_writer-outcome.result Is code) c.finish_writer-outcome.ensures
  where
    Is : Option Bool → Type 0
    Is outcome = to_z w32 (of_z w32 c.finish_answer.result) ≡ finish_code outcome

    code : Is c.finish_writer-outcome.result
    code = to_z-of_z w32 c.finish_answer.result (record { sfits = c.finish_answer.type_inv }) ∙ c.finish_answer.ensures
