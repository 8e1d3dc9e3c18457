use Rattle.log_dictionary.proofs.NumberLemmas.{IsReadTo}
use Rattle.log_dictionary.proofs.numbers.more_digits.Given as goal

abbrev pub invariant-loop-end : goal.invariant-loop-end
invariant-loop-end l = IsReadTo l.first l.bytes l.end l.number
