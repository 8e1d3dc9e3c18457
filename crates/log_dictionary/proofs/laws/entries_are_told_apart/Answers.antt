use Rattle.log_dictionary.proofs.lemmas.BinaryLaws.{entry_cases, begins_with_one}
use Rattle.log_dictionary.proofs.laws.entries_are_told_apart.Goals as goal

pub returns-clause-one_holds : goal.returns-clause-one_holds
returns-clause-one_holds c = entry_cases

pub returns-clause-no_cause : goal.returns-clause-no_cause
returns-clause-no_cause c = begins_with_one
