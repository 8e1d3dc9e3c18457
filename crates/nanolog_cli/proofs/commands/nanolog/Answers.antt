use Rattle.command_base.specs.Endings.{answer_ending}
use Rattle.nanolog_cli.proofs.Dispatch.{answers_headline}
use Rattle.nanolog_cli.proofs.commands.nanolog.Goals as goal

pub returns-clause-ends : goal.returns-clause-ends
returns-clause-ends g c =
    (answer_ending c.run_words.result, c.say_end.ensures.status, c.run_words.ensures.ends, c.say_end.ensures.told)

pub returns-clause-headline : goal.returns-clause-headline
returns-clause-headline g c = answers_headline _ _ _ _ _ c.run_words.ensures.ends c.say_end.ensures.status
