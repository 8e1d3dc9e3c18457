use Rattle.cli_words.proofs.Lines.{option_moved, option_spelled, options_turned}
use Rattle.cli_words.proofs.laws.options_stand_anywhere.Goals as goal

pub returns-clause-moved : goal.returns-clause-moved
returns-clause-moved c = option_moved

pub returns-clause-turned : goal.returns-clause-turned
returns-clause-turned c = options_turned

pub returns-clause-spelled : goal.returns-clause-spelled
returns-clause-spelled c = option_spelled
