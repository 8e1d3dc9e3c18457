use Rattle.log_dictionary.proofs.NumberLemmas.{IsShortTo}
use Rattle.log_dictionary.proofs.numbers.short_digits.Given as goal

abbrev pub invariant-loop-end : goal.invariant-loop-end
invariant-loop-end l = IsShortTo l.bytes l.end l.number
