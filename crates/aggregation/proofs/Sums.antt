-- The totals of numbers and one more, and how large a sum can be.
use Rattle.std.proofs.Common.{◌≡◌, ℕ, ◌+◌, ◌≤◌, List, [], ◌∷◌, ◌++◌, length, Option, Some, None, ℤ, pos, FitsSigned, refl, ap, sym, ◌∙◌, subst, arith}
use Rattle.std.specs.Prelude.{◌+ℤ◌, fold}
use Rattle.std.specs.Int.{int_min, int_max}
use Rattle.std.proofs.lemmas.Int.{ints}
use Rattle.std.proofs.lemmas.List.{append-nil, length-append}
use Rattle.std.proofs.lemmas.List.Sums.{fold_push}
use Rattle.std.proofs.lemmas.Option.{same_Some}
use mir.Syntax.{w128}
use Rattle.aggregation.specs.declared.totals.Totals.{Totals}
use Rattle.aggregation.specs.Totals.{range_of, sum_of, totals_of, IsNumber, IsWithin, Adds}

-- behind some numbers
pub range_more : (numbers : List ℤ) (least greatest number : ℤ) → Some (least, greatest) ≡ range_of numbers → Some (int_min least number, int_max greatest number) ≡ range_of (numbers ++ number ∷ [])
range_more [] least greatest number is = cc
range_more (first ∷ others) least greatest number is =
    let both = same_Some (least, greatest) (fold int_min first others, fold int_max first others) is in
    let low : int_min least number ≡ fold int_min first (others ++ number ∷ []) = ap (λ (pair : ℤ × ℤ). int_min pair.0 number) both ∙ sym (fold_push int_min first others number) in
    let high : int_max greatest number ≡ fold int_max first (others ++ number ∷ []) = ap (λ (pair : ℤ × ℤ). int_max pair.1 number) both ∙ sym (fold_push int_max first others number) in
    λ i. Some (low i, high i)

-- behind none
pub range_first : (numbers : List ℤ) (number : ℤ) → None ≡ range_of numbers → Some (number, number) ≡ range_of (numbers ++ number ∷ [])
range_first [] number is = refl
range_first (first ∷ others) number is = cc

pub totals_more : (numbers : List ℤ) (number : ℤ) (count : ℕ) (range : Option (ℤ × ℤ)) (sum : ℤ) → count ≡ length numbers + 1 → range ≡ range_of (numbers ++ number ∷ []) → sum ≡ sum_of numbers +ℤ number
    → (let made : Totals = record { count = count; range = range; sum = sum } in made ≡ totals_of (numbers ++ number ∷ []))
totals_more numbers number count range sum count_is range_is sum_is =
    let count_too : count ≡ length (numbers ++ number ∷ []) = omega (arith, count_is, length-append numbers (number ∷ [])) in
    let sum_too : sum ≡ sum_of (numbers ++ number ∷ []) = sum_is ∙ sym (fold_push (λ sum number. sum +ℤ number) (pos 0) numbers number) in
    λ i. record { count = count_too i; range = range_is i; sum = sum_too i }

pub within_more : (count : ℕ) (sum number : ℤ) → IsWithin count sum → IsNumber number → IsWithin (count + 1) (sum +ℤ number)
within_more count sum number within is = record {
  low = omega (arith, ints, within.low, is.low);
  high = omega (arith, ints, within.high, is.high);
}

-- the totals of one number more
pub adds_one : (old new : Totals) (number : ℤ) → IsWithin old.count old.sum → IsNumber number → new.count ≡ old.count + 1
    → ((numbers : List ℤ) → old.range ≡ range_of numbers → new.range ≡ range_of (numbers ++ number ∷ [])) → new.sum ≡ old.sum +ℤ number → Adds old new (number ∷ []) 1
adds_one old new number within is count range sum = record {
  totals = λ before are. totals_more before number new.count new.range new.sum
      (count ∙ ap (λ (t : Totals). t.count + 1) are) (range before (ap (λ (t : Totals). t.range) are)) (sum ∙ ap (λ (t : Totals). t.sum +ℤ number) are);
  count = omega (arith, count);
  within = (
      let more = within_more old.count old.sum number within is in
      subst (λ (n : ℕ). IsWithin n new.sum) (sym count) (subst (IsWithin (old.count + 1)) (sym sum) more));
}

-- the totals as they were
pub adds_none : (totals : Totals) (numbers : List ℤ) (most : ℕ) → IsWithin totals.count totals.sum → numbers ≡ [] → Adds totals totals numbers most
adds_none totals numbers most within none = record {
  totals = λ before are. are ∙ ap totals_of (sym (ap (λ (l : List ℤ). before ++ l) none ∙ append-nil before));
  count = omega arith;
  within = within;
}

-- the sum of 2^27 numbers of 64 bits and one more is one of 128 bits
pub sum_fits : (count : ℕ) (sum number : ℤ) → IsWithin count sum → count ≤ 134217728 → IsNumber number → FitsSigned w128 (sum +ℤ number)
sum_fits count sum number within few is = omega (arith, ints, within.low, within.high, is.low, is.high)
