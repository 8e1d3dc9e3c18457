-- What holds of each byte of a number's decimal digits.
use Rattle.std.proofs.Common.{ℕ, zero, suc, ◌+◌, ◌/◌, ◌%◌, ◌<◌, Bool, true, false, cond, eqb, List, [], ◌∷◌, sym, subst, arith}
use Rattle.std.specs.Fmt.{digits, digits_onto, digit_glyph, decimal}
use Rattle.std.specs.List.{AllByRecursion}
use Rattle.std.proofs.lemmas.Bool.{lt-ltb, cond-true}

module _ (P : ℕ → Type 0) (digit : (d : ℕ) → d < 10 → P (48 + d)) where
  last_digit : (n : ℕ) → P (digit_glyph false (n % 10))
  last_digit n =
      let small : n % 10 < 10 = omega arith in
      subst P (sym (cond-true _ _ _ (lt-ltb (n % 10) 10 small))) (digit (n % 10) small)

  digits_all : (k n : ℕ) (behind : List ℕ) → AllByRecursion P behind → AllByRecursion P (digits_onto k 10 false n behind)
  digits_all zero n behind all = all
  digits_all (suc k) n behind all = at_test (eqb (n / 10) 0) (digits_all k (n / 10) (digit_glyph false (n % 10) ∷ behind) (last_digit n, all))
    where
      at_test : (b : Bool) → AllByRecursion P (digits_onto k 10 false (n / 10) (digit_glyph false (n % 10) ∷ behind)) → AllByRecursion P (cond b (digit_glyph false (n % 10) ∷ behind) (digits_onto k 10 false (n / 10) (digit_glyph false (n % 10) ∷ behind)))
      at_test true others = (last_digit n, all)
      at_test false others = others

  -- what holds of the digits holds of all bytes of a number
  pub decimal_all : (n : ℕ) → AllByRecursion P (decimal n)
  unfolding digits
  decimal_all n = digits_all 64 n [] tt
