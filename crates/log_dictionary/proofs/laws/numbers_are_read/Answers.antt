use Rattle.log_dictionary.proofs.lemmas.NumberLaws.{natural_decimal, decimal_natural, integer_decimal, decimal_integer, short_from_fits}
use Rattle.log_dictionary.proofs.laws.numbers_are_read.Goals as goal
use Rattle.std.proofs.Common.{pos}

pub returns-clause-natural : goal.returns-clause-natural
returns-clause-natural c = λ field n small. (natural_decimal field n small, decimal_natural field n small)

pub returns-clause-unsigned : goal.returns-clause-unsigned
returns-clause-unsigned c = λ field n small. (integer_decimal field (pos n) small, decimal_integer field (pos n) small)

pub returns-clause-signed : goal.returns-clause-signed
returns-clause-signed c = λ field z fits. (integer_decimal field z (short_from_fits z fits), decimal_integer field z (short_from_fits z fits))
