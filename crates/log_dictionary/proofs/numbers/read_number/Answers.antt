use Rattle.log_dictionary.proofs.lemmas.NumberLaws.{small_some, small_none}
use Rattle.log_dictionary.proofs.numbers.read_number.Goals as goal

pub returns-clause-some : goal.returns-clause-some
returns-clause-some c = small_some c.args.field.now c.small_number.result c.small_number.ensures

pub returns-clause-none : goal.returns-clause-none
returns-clause-none c = small_none c.args.field.now c.small_number.result c.small_number.ensures
