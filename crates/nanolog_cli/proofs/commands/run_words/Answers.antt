use Rattle.std.proofs.Common.{Option, Some, None, refl, inl}
use Rattle.cli_words.specs.Commands.{Command}
use Rattle.command_base.specs.declared.refusal.Refusal.TheVariants.{NoMemory as WantsMemory}
use Rattle.command_base.proofs.lemmas.EffectLaws.{answered_as}
use Rattle.nanolog_cli.proofs.Dispatch.{none_asked, words_read}
use Rattle.nanolog_cli.proofs.commands.run_words.Goals as goal

pub run-requires-clause-lawful : goal.run-requires-clause-lawful
run-requires-clause-lawful g c = λ κs within. rw c.in-Some.is at c.in_ok-command.ensures.lawful

pub returns-in_err-command-clause-ends : goal.returns-in_err-command-clause-ends
returns-in_err-command-clause-ends g c = inl (answered_as _ WantsMemory c.from_residual.ensures.1, refl)

pub returns-in-Some-clause-ends : goal.returns-in-Some-clause-ends
returns-in-Some-clause-ends g c =
    words_read (λ (words : Option Command). words) _ (Some c.in-Some.command) _ _ _ _ c.in-Some.is c.in_ok-command.ensures.asked
    c.run.ensures.ends

pub returns-in-None-clause-ends : goal.returns-in-None-clause-ends
returns-in-None-clause-ends g c =
    words_read (λ (words : Option Command). words) _ None _ _ _ _ c.in-None.is c.in_ok-command.ensures.asked
    (none_asked _ _ c.no_command.ensures)
