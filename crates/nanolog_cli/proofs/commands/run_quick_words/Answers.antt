use Rattle.std.proofs.Common.{Some, None, refl, inl}
use Rattle.command_base.specs.declared.refusal.Refusal.TheVariants.{NoMemory as WantsMemory}
use Rattle.command_base.proofs.lemmas.EffectLaws.{answered_as}
use Rattle.nanolog_cli.specs.Outcomes.{quick_part}
use Rattle.nanolog_cli.proofs.Dispatch.{none_asked, words_read}
use Rattle.nanolog_cli.proofs.commands.run_quick_words.Goals as goal

pub run_quick-requires : goal.run_quick-requires
run_quick-requires g c = record { lawful = rw c.in-Some.is at c.in_ok-command.ensures.lawful }

pub returns-in_err-command-clause-ends : goal.returns-in_err-command-clause-ends
returns-in_err-command-clause-ends g c = inl (answered_as _ WantsMemory c.from_residual.ensures.1, refl)

pub returns-in-Some-clause-ends : goal.returns-in-Some-clause-ends
returns-in-Some-clause-ends g c =
    words_read quick_part _ (Some c.in-Some.command) _ _ _ _ c.in-Some.is c.in_ok-command.ensures.asked
    c.run_quick.ensures.ends

pub returns-in-None-clause-ends : goal.returns-in-None-clause-ends
returns-in-None-clause-ends g c =
    words_read quick_part _ None _ _ _ _ c.in-None.is c.in_ok-command.ensures.asked
    (none_asked _ _ c.no_command.ensures)
