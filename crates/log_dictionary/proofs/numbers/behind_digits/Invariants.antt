use Rattle.std.proofs.Common.{◌≡◌, drop}
use Rattle.log_dictionary.specs.Numbers.{digits_from}
use Rattle.log_dictionary.proofs.numbers.behind_digits.Given as goal

abbrev pub invariant-loop-end : goal.invariant-loop-end
invariant-loop-end l = (digits_from 0 l.bytes).1 ≡ (digits_from 0 (drop l.end l.bytes)).1
