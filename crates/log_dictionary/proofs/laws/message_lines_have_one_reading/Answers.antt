use Rattle.log_dictionary.proofs.lemmas.Distinct.{same_from_test, test_from_same}
use Rattle.log_dictionary.proofs.lemmas.LineMessages.{one_message}
use Rattle.log_dictionary.proofs.lemmas.LineLaws.{message_or_not}
use Rattle.log_dictionary.proofs.laws.message_lines_have_one_reading.Goals as goal

pub returns-clause-one_reading : goal.returns-clause-one_reading
returns-clause-one_reading c = one_message

pub returns-clause-spells_or_not : goal.returns-clause-spells_or_not
returns-clause-spells_or_not c = message_or_not

pub returns-clause-equal : goal.returns-clause-equal
returns-clause-equal c = λ a b. (same_from_test a b, test_from_same a b)
