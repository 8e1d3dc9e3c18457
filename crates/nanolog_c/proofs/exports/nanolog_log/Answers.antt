use mir.Val.{to_z, of_z}
use Rattle.std.proofs.Common.{◌≡◌, Option, Result, ◌∙◌, w32}
use Rattle.std.proofs.lemmas.Int.{to_z-of_z}
use Rattle.log_ends.specs.declared.writer.LogFault.{LogFault}
use Rattle.log_ends.specs.declared.end.End.TheVariants as ends
use Rattle.log_ends.specs.Slots.{writer_in}
use Rattle.nanolog_c.specs.Codes.{log_code, need_after, room_after}
use Rattle.nanolog_c.proofs.Through.{answered_thrice, unanswered, through}
use Rattle.nanolog_c.proofs.exports.nanolog_log.Goals as goal

pub returns : goal.returns
returns c =
    through ends.Writer writer_in _ _ _ _ _ _ _ _ c.take-end.ensures.value c.put.ensures
    (λ old new. answered_thrice c.log_call-outcome.result Is Needs Frees _ code c.log_answer.ensures.need c.log_answer.ensures.room)
    (λ none. (unanswered c.log_call-outcome.result Is code none, unanswered c.log_call-outcome.result Needs c.log_answer.ensures.need none, unanswered c.log_call-outcome.result Frees c.log_answer.ensures.room none)) c.log_call-outcome.ensures
  where
    Is : Option (Result (Unit {0}) LogFault) → Type 0
    Is outcome = to_z w32 (of_z w32 c.log_answer.result) ≡ log_code outcome

    Needs : Option (Result (Unit {0}) LogFault) → Type 0
    Needs outcome = c.log_answer.new.need ≡ need_after outcome c.args.need.now

    Frees : Option (Result (Unit {0}) LogFault) → Type 0
    Frees outcome = c.log_answer.new.room ≡ room_after outcome c.args.room.now

    code : Is c.log_call-outcome.result
    code = to_z-of_z w32 c.log_answer.result (record { sfits = c.log_answer.type_inv }) ∙ c.log_answer.ensures.code
