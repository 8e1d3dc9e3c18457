-- Fields of numbers below 2^64 are their decimal digits.
use Rattle.std.proofs.Common.{◌≡◌, ℕ, ◌<◌, ◌^◌, Bool, true, false, cond, ltb, List, Option, Some, None, ap, ◌∙◌, subst, refl}
use Rattle.std.specs.Prelude.{decimal}
use Rattle.std.proofs.lemmas.Bool.{ltb-true, lt-ltb, cond-true}
use Rattle.log_dictionary.specs.Numbers.{natural_of, if_small}
use Rattle.log_dictionary.proofs.lemmas.NumberLaws.{natural_decimal, decimal_natural}
use Rattle.trace_text.specs.LineFields.{field_number}

-- the decimal digits of a number below 2^64 are read as that number
pub number_read : (n : ℕ) → n < 2 ^ 64 → field_number (decimal n) ≡ Some n
number_read n small = ap if_small (decimal_natural (decimal n) n small refl) ∙ cond-true _ _ _ (lt-ltb n (2 ^ 64) small)

-- a field of which a number is read is its decimal digits, and the number is below 2^64
pub number_taken : (field : List ℕ) (n : ℕ) → field_number field ≡ Some n → (field ≡ decimal n) × (n < 2 ^ 64)
number_taken field n e = by_number (natural_of field) refl e
  where
    by_size : (b : Bool) (m : ℕ) → ltb m (2 ^ 64) ≡ b → natural_of field ≡ Some m → cond b (Some m) None ≡ Some n → (field ≡ decimal n) × (n < 2 ^ 64)
    by_size false m size is e = absurd cc
    by_size true m size is e =
        let small : m < 2 ^ 64 = ltb-true m (2 ^ 64) size in
        let same : m ≡ n = cc in
        subst (λ (x : ℕ). (field ≡ decimal x) × (x < 2 ^ 64)) same (natural_decimal field m small is, small)

    by_number : (o : Option ℕ) → natural_of field ≡ o → if_small o ≡ Some n → (field ≡ decimal n) × (n < 2 ^ 64)
    by_number None is e = absurd cc
    by_number (Some m) is e = by_size (ltb m (2 ^ 64)) m refl is e
