use Rattle.nanolog_laws.proofs.Unfinished.{no_command, words_told, lacking}
use Rattle.nanolog_laws.proofs.laws.refusals_have_their_reasons.Goals as goal

pub returns-clause-usage : goal.returns-clause-usage
returns-clause-usage c = no_command

pub returns-clause-words : goal.returns-clause-words
returns-clause-words c = words_told

pub returns-clause-absent : goal.returns-clause-absent
returns-clause-absent c = lacking
