use mir.Val.{to_z, of_z}
use Rattle.std.proofs.Common.{◌≡◌, Option, Result, Some, subst, sym, ◌∙◌, w32}
use Rattle.std.proofs.lemmas.Int.{to_z-of_z}
use Rattle.log_ends.specs.declared.end.End.{End}
use Rattle.log_ends.specs.declared.session.WriterFault.{WriterFault}
use Rattle.log_ends.specs.Slots.{session_in, GivesInto}
use Rattle.log_ends.specs.declared.end.End.TheVariants as ends
use Rattle.nanolog_c.specs.Codes.{writer_code}
use Rattle.nanolog_c.proofs.Through.{answered, unanswered, through}
use Rattle.nanolog_c.proofs.exports.nanolog_writer.Goals as goal

pub returns-clause-free : goal.returns-clause-free
returns-clause-free c free =
    through ends.Session session_in _ _ _ _ _ _ _ _ c.take-ours.ensures.value c.put.ensures
    (λ old new step. subst (λ (held : Option End). (outcome : Result (Unit {0}) WriterFault) × Is (Some outcome) × GivesInto old new outcome held) (sym c.put-2.ensures) (answered c.give_writer-outcome.result Is _ code step))
    (λ other. (unanswered c.give_writer-outcome.result Is code other.0, c.put-2.ensures ∙ other.1)) (c.give_writer-outcome.ensures.empty (c.take-next.ensures.value ∙ free))
  where
    Is : Option (Result (Unit {0}) WriterFault) → Type 0
    Is outcome = to_z w32 (of_z w32 c.writer_answer.result) ≡ writer_code outcome

    code : Is c.give_writer-outcome.result
    code = to_z-of_z w32 c.writer_answer.result (record { sfits = c.writer_answer.type_inv }) ∙ c.writer_answer.ensures
