-- How the digits of a number are written, from the last to the first.
use Rattle.std.proofs.Common.{◌≡◌, ◌⊎◌, inl, inr, eq-zero-or-pos, ℕ, zero, suc, ◌+◌, ◌-◌, ◌*◌, ◌/◌, ◌%◌, ◌^◌, ◌<◌, ◌≤◌, ◌==◌, Bool, false, ◌&&◌, List, [], ◌∷◌, ◌++◌, length, replicate, refl, sym, ◌∙◌, ap, arith}
use Rattle.std.proofs.Math.Nat.{pow-suc, pow-zero, pow-le-pow_left, mod-eq_of_lt}
use Rattle.std.proofs.lemmas.Nat.{div_below, le-div}
use Rattle.std.proofs.lemmas.Bool.Decides.{nat_tests}
use Rattle.std.proofs.lemmas.List.{length-append, length-replicate}
use Rattle.std.proofs.lemmas.Fmt.{digits_is_IsNumeral}
use Rattle.std.specs.Char.{digit_value}
use Rattle.std.specs.Str.Parse.{digits_value, digits_value_after}
use Rattle.std.specs.Fmt.{digits, digits_onto, digit_glyph}
use Rattle.direct_printf.specs.Fields.{Digits}

-- the value 0 at precision 0 has no digits
pub Digits-none : (value base precision : ℕ) (upper : Bool) → value ≡ 0 → precision ≡ 0 → Digits value base upper precision ≡ []
unfolding Digits
Digits-none value base precision upper none no_precision = rw (none, no_precision)

-- the other case, as code finds it
pub has_digits : (value precision : ℕ) → ((value ≡ 0) × (precision ≡ 0 → ⊥)) ⊎ (value ≡ 0 → ⊥) → (value == 0 && precision == 0) ≡ false
has_digits value precision either = grind (arith, nat_tests)

-- that is one case, and all others are the other
none_or_some : (value precision : ℕ) → ((value ≡ 0) × (precision ≡ 0)) ⊎ ((value == 0 && precision == 0) ≡ false)
none_or_some value precision =
    elim (eq-zero-or-pos value) [
      | inl none ↦
          elim (eq-zero-or-pos precision) [
            | inl no_precision ↦ inl (none, no_precision)
            | inr some ↦ inr (has_digits value precision (inl (none, λ e. absurd (omega (arith, some, e)))))
          ]
      | inr some ↦ inr (has_digits value precision (inr (λ e. absurd (omega (arith, some, e)))))
    ]

-- all others have their least spelling, with zeros in front up to the precision
pub Digits-some : (value base precision : ℕ) (upper : Bool) (spelled : List ℕ) → (value == 0 && precision == 0) ≡ false → spelled ≡ digits base upper value → replicate (precision - length spelled) 48 ++ spelled ≡ Digits value base upper precision
unfolding Digits
Digits-some value base precision upper spelled some is = rw (is, some)

-- zeros in front do not change what digits read as
digits_value-zeros : (base count : ℕ) (spelled : List ℕ) → digits_value base (replicate count 48 ++ spelled) ≡ digits_value base spelled
digits_value-zeros base zero spelled = refl
digits_value-zeros base (suc count) spelled =
    let none : 0 * base + digit_value 48 ≡ 0 = omega arith in
    ap (λ n. digits_value_after base n (replicate count 48 ++ spelled)) none ∙ digits_value-zeros base count spelled

-- digits read back in their base
pub digits_value-Digits : (value base precision : ℕ) (upper : Bool) → 2 ≤ base → base ≤ 16 → value < 2 ^ 64 → digits_value base (Digits value base upper precision) ≡ value
digits_value-Digits value base precision upper low high small =
    let most : 2 ^ 64 ≤ base ^ 64 = pow-le-pow_left low 64 in
    let spelled = digits_is_IsNumeral base upper low high value (omega (arith, most, small)) in
    elim (none_or_some value precision) [
      | inl none ↦ ap (digits_value base) (Digits-none value base precision upper none.0 none.1) ∙ sym none.0
      | inr some ↦
          ap (digits_value base) (sym (Digits-some value base precision upper (digits base upper value) some refl)) ∙ digits_value-zeros base (precision - length (digits base upper value)) (digits base upper value) ∙ spelled.1
    ]

-- and are as many as the precision says
pub length-Digits : (value base precision : ℕ) (upper : Bool) → precision ≤ length (Digits value base upper precision)
length-Digits value base precision upper =
    elim (none_or_some value precision) [
      | inl none ↦ omega (arith, none.1)
      | inr some ↦
          let spelled : List ℕ = digits base upper value in
          let count : length (replicate {A = ℕ} (precision - length spelled) 48) ≡ precision - length spelled = length-replicate (precision - length spelled) 48 in
          let whole : length (replicate (precision - length spelled) 48 ++ spelled) ≡ length (Digits value base upper precision) = ap length (Digits-some value base precision upper spelled some refl) in
          omega (arith, whole, count, length-append (replicate {A = ℕ} (precision - length spelled) 48) spelled)
    ]

-- one digit more is written in front of those that stand
pub digits_onto-more : (k base left : ℕ) (upper : Bool) (written : List ℕ) → 0 < left / base → digits_onto (suc k) base upper left written ≡ digits_onto k base upper (left / base) (digit_glyph upper (left % base) ∷ written)
digits_onto-more k base left upper written more =
    let test : (left / base == 0) ≡ false = grind (arith, nat_tests) in
    rw test

-- the first digit
pub digits_onto-last : (k base left : ℕ) (upper : Bool) (written : List ℕ) → left < base → digits_onto (suc k) base upper left written ≡ digit_glyph upper left ∷ written
digits_onto-last k base left upper written last =
    let none : left / base ≡ 0 = omega (arith, div_below left base 1 (omega arith) (omega arith)) in
    let same : left % base ≡ left = mod-eq_of_lt last in
    rw (none, same)

-- of a value's digits some are written, and those of what is left go in front of them, into so many places
pub record IsLeft (base : ℕ) (upper : Bool) (value left places : ℕ) (written : List ℕ) : Type 0 where
  pub some : 1 ≤ places
  pub below : left < base ^ places
  pub joined : digits_onto (places + 42) base upper left written ≡ digits base upper value

-- a number of 64 bits has 22 octal digits at most
pub IsLeft-start : (base value : ℕ) (upper : Bool) (written : List ℕ) → 8 ≤ base → value < 2 ^ 64 → written ≡ [] → IsLeft base upper value value 22 written
unfolding digits
IsLeft-start base value upper written low small none =
    let most : 8 ^ 22 ≤ base ^ 22 = pow-le-pow_left low 22 in
    record { some = omega arith; below = omega (arith, most); joined = rw none }

-- one digit more is written
pub IsLeft-more : (base value left places : ℕ) (upper : Bool) (written more : List ℕ) → 8 ≤ base → base ≤ left → IsLeft base upper value left places written → more ≡ digit_glyph upper (left % base) ∷ written → IsLeft base upper value (left / base) (places - 1) more
IsLeft-more base value left zero upper written more low rest is more_is = absurd (omega (arith, is.some))
IsLeft-more base value left (suc zero) upper written more low rest is more_is =
    let whole : 1 * base ≡ base = omega arith in
    let product : base ^ suc 0 ≡ base = pow-suc base 0 ∙ ap (λ x. x * base) (pow-zero base) ∙ whole in
    absurd (omega (arith, is.below, product))
IsLeft-more base value left (suc (suc places)) upper written more low rest is more_is =
    let less : suc (suc places) - 1 ≡ suc places = omega arith in
    let product : base ^ suc (suc places) ≡ base ^ suc places * base = pow-suc base (suc places) in
    let below : left / base < base ^ suc places = div_below left base (base ^ suc places) (omega arith) (rw product at is.below) in
    let positive : 0 < left / base = omega (arith, le-div 1 left base (omega arith) (omega arith)) in
    let count : suc (suc places) + 42 ≡ suc (suc places + 42) = omega arith in
    let joined : digits_onto (suc (suc places + 42)) base upper left written ≡ digits base upper value = rw count at is.joined in
    rw (less, more_is) (record { some = omega arith; below = below; joined = sym (digits_onto-more (suc places + 42) base left upper written positive) ∙ joined })

-- the first digit is written last
pub IsLeft-end : (base value left places : ℕ) (upper : Bool) (written all : List ℕ) → left < base → IsLeft base upper value left places written → all ≡ digit_glyph upper left ∷ written → all ≡ digits base upper value
IsLeft-end base value left places upper written all last is all_is =
    let count : places + 42 ≡ suc (places + 41) = omega arith in
    let joined : digits_onto (suc (places + 41)) base upper left written ≡ digits base upper value = rw count at is.joined in
    all_is ∙ sym (digits_onto-last (places + 41) base left upper written last) ∙ joined
