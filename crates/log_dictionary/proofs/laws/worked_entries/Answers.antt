use Rattle.log_dictionary.proofs.lemmas.BinaryWorked.{whole}
use Rattle.log_dictionary.proofs.laws.worked_entries.Goals as goal

pub returns-clause-whole : goal.returns-clause-whole
returns-clause-whole c = whole
