use Rattle.arg_records.proofs.lemmas.CallLists.{last_stamp-push}
use Rattle.checkpoint_io.proofs.lemmas.ValidityLaws.{own_records, other_records}
use Rattle.checkpoint_io.proofs.laws.extents_have_the_records_of_their_writers.Goals as goal

pub returns-clause-own : goal.returns-clause-own
returns-clause-own c = own_records

pub returns-clause-another : goal.returns-clause-another
returns-clause-another c = other_records

pub returns-clause-stamp : goal.returns-clause-stamp
returns-clause-stamp c = last_stamp-push
