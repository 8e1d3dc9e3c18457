use Rattle.log_dictionary.proofs.lemmas.Written.{written_text, written_message}
use Rattle.log_dictionary.proofs.lemmas.LineWorked.{row_written, dictionary_written}
use Rattle.log_dictionary.proofs.laws.what_is_written_spells.Goals as goal

pub returns-clause-text : goal.returns-clause-text
returns-clause-text c = written_text

pub returns-clause-message : goal.returns-clause-message
returns-clause-message c = written_message

pub returns-clause-line : goal.returns-clause-line
returns-clause-line c = row_written

pub returns-clause-dictionary : goal.returns-clause-dictionary
returns-clause-dictionary c = dictionary_written
