use Rattle.std.proofs.Common.{refl}
use Rattle.log_dictionary.specs.Numbers.{number_from}
use Rattle.log_dictionary.proofs.laws.worked_numbers.Goals as goal

pub returns-clause-zero : goal.returns-clause-zero
unfolding number_from
returns-clause-zero c = refl

pub returns-clause-below : goal.returns-clause-below
unfolding number_from
returns-clause-below c = refl

pub returns-clause-zeros : goal.returns-clause-zeros
unfolding number_from
returns-clause-zeros c = refl

pub returns-clause-minus_zero : goal.returns-clause-minus_zero
unfolding number_from
returns-clause-minus_zero c = refl

pub returns-clause-plus : goal.returns-clause-plus
unfolding number_from
returns-clause-plus c = refl

pub returns-clause-minus : goal.returns-clause-minus
unfolding number_from
returns-clause-minus c = refl

pub returns-clause-nothing : goal.returns-clause-nothing
unfolding number_from
returns-clause-nothing c = refl

pub returns-clause-letter : goal.returns-clause-letter
unfolding number_from
returns-clause-letter c = refl

pub returns-clause-nines : goal.returns-clause-nines
unfolding number_from
returns-clause-nines c = refl
