use Rattle.log_dictionary.proofs.lemmas.LineWorked.{row_read, great_order, great_not_bad}
use Rattle.log_dictionary.proofs.laws.worked_lines.Goals as goal

pub returns-clause-read : goal.returns-clause-read
returns-clause-read c = row_read

pub returns-clause-great_id : goal.returns-clause-great_id
returns-clause-great_id c = great_order

pub returns-clause-no_bad_entry : goal.returns-clause-no_bad_entry
returns-clause-no_bad_entry c = great_not_bad
