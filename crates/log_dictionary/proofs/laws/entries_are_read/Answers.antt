use Rattle.log_dictionary.proofs.lemmas.BinaryLaws.{entry_again, entry_taken, no_fields}
use Rattle.log_dictionary.proofs.laws.entries_are_read.Goals as goal

pub returns-clause-read : goal.returns-clause-read
returns-clause-read c = entry_again

pub returns-clause-spelled : goal.returns-clause-spelled
returns-clause-spelled c = entry_taken

pub returns-clause-no_fields : goal.returns-clause-no_fields
returns-clause-no_fields c = no_fields
