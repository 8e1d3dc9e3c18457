use Rattle.log_dictionary.proofs.lemmas.BinaryLaws.{one_entry, one_spelling, front_of_entry_is_cut, stays_bad}
use Rattle.log_dictionary.proofs.laws.entries_are_one.Goals as goal

pub returns-clause-one_message : goal.returns-clause-one_message
returns-clause-one_message c = one_entry

pub returns-clause-one_spelling : goal.returns-clause-one_spelling
returns-clause-one_spelling c = one_spelling

pub returns-clause-cut : goal.returns-clause-cut
returns-clause-cut c = front_of_entry_is_cut

pub returns-clause-stays_bad : goal.returns-clause-stays_bad
returns-clause-stays_bad c = stays_bad
