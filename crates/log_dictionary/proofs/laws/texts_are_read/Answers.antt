use Rattle.log_dictionary.proofs.lemmas.TextLaws.{opens_read, read_opens_text, one_text, text_or_none}
use Rattle.log_dictionary.proofs.laws.texts_are_read.Goals as goal

pub returns-clause-read : goal.returns-clause-read
returns-clause-read c = opens_read

pub returns-clause-spelled : goal.returns-clause-spelled
returns-clause-spelled c = read_opens_text

pub returns-clause-one_text : goal.returns-clause-one_text
returns-clause-one_text c = one_text

pub returns-clause-one_holds : goal.returns-clause-one_holds
returns-clause-one_holds c = text_or_none
