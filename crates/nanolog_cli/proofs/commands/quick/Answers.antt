use Rattle.command_base.specs.Endings.{answer_ending}
use Rattle.nanolog_cli.proofs.commands.quick.Goals as goal

pub returns-clause-ends : goal.returns-clause-ends
returns-clause-ends g c =
    (answer_ending c.run_quick_words.result, c.say_end.ensures.status, c.run_quick_words.ensures.ends, c.say_end.ensures.told)
