use Rattle.std.proofs.Common.{◌≡◌, ap, ◌∙◌, w32}
use Rattle.std.proofs.lemmas.Int.{to_z-of_z}
use mir.Val.{to_z, of_z}
use Rattle.log_ends.specs.declared.end.End.TheVariants as ends
use Rattle.log_ends.specs.Slots.{session_in}
use Rattle.nanolog_c.specs.Codes.{end_code}
use Rattle.nanolog_c.proofs.Through.{through}
use Rattle.nanolog_c.proofs.exports.nanolog_end.Goals as goal

pub returns : goal.returns
returns c =
    through ends.Session session_in _ _ _ _ _ _ _ _ c.take-end.ensures.value c.put.ensures (λ old new step. (code ∙ ap end_code step.0, step.1)) (λ no. code ∙ ap end_code no) c.end_session-is_session.ensures where
      code : to_z w32 (of_z w32 c.end_answer.result) ≡ end_code c.end_session-is_session.result
      code = to_z-of_z w32 c.end_answer.result (record { sfits = c.end_answer.type_inv }) ∙ c.end_answer.ensures
