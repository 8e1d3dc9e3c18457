use Rattle.log_dictionary.proofs.lemmas.NumberLaws.{signed_some, signed_none}
use Rattle.log_dictionary.proofs.numbers.read_signed.Goals as goal

pub returns-clause-some : goal.returns-clause-some
returns-clause-some c = signed_some c.args.field.now c.signed_number.result c.signed_number.ensures

pub returns-clause-none : goal.returns-clause-none
returns-clause-none c = signed_none c.args.field.now c.signed_number.result c.signed_number.ensures
