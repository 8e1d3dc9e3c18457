use Rattle.cli_words.proofs.Lawful.{asks_lawful}
use Rattle.cli_words.proofs.laws.commands_are_lawful.Goals as goal

pub returns : goal.returns
returns c = asks_lawful
