use Rattle.std.proofs.Common.{◌-◌, ◌^◌, refl, arith}
use Rattle.nibble_pack.specs.Packing.{small, negative, wide}
use Rattle.nibble_pack.proofs.lemmas.PackingLaws.{IsLeastCount-zero, IsLeastCount-suc}
use Rattle.nibble_pack.proofs.laws.signed_numbers.Goals as goal

pub returns-clause-minus_one : goal.returns-clause-minus_one
returns-clause-minus_one c = negative 0 0 refl (omega arith) IsLeastCount-zero refl refl

pub returns-clause-last_below_zero : goal.returns-clause-last_below_zero
returns-clause-last_below_zero c = negative (2 ^ 48 - 1) 6 refl (omega arith) (IsLeastCount-suc 5 (2 ^ 48 - 1) (omega arith) (omega arith)) refl refl

pub returns-clause-first_wide_below_zero : goal.returns-clause-first_wide_below_zero
returns-clause-first_wide_below_zero c = wide (omega arith, omega arith) refl refl

pub returns-clause-last_small : goal.returns-clause-last_small
returns-clause-last_small c = small (2 ^ 56 - 1) refl (omega arith) (IsLeastCount-suc 6 (2 ^ 56 - 1) (omega arith) (omega arith)) refl

pub returns-clause-first_wide : goal.returns-clause-first_wide
returns-clause-first_wide c = wide (omega arith, omega arith) refl refl
