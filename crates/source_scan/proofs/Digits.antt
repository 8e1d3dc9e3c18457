-- Digits at the front of bytes, and their value.
use Rattle.std.proofs.Common.{◌≡◌, ℕ, ◌+◌, ◌*◌, ◌<◌, ◌≤◌, true, false, cond, min, List, [], ◌∷◌, length, take, get_or, refl, sym, subst, ap, ◌∙◌, arith}
use Rattle.std.proofs.Math.Nat.{le-mul_of_pos_right}
use Rattle.std.proofs.lemmas.List.Sums.{take_while-cons, prefix_len_is}
use Rattle.std.proofs.lemmas.Bool.{ltb-true, and_parts}
use Rattle.std.proofs.lemmas.List.{take_min, take_all}
use Rattle.std.specs.List.{prefix_len, take_while, list_all}
use Rattle.std.specs.Char.{is_digit, digit_value}
use Rattle.std.specs.Str.Parse.{digits_value, digits_value_after, AllDigits}
use Rattle.source_scan.specs.Escapes.{digits_of}
use Rattle.source_scan.specs.LineNumbers.{is_decimal}
use Rattle.source_tokens.proofs.lemmas.Passing.{back_of, first_and_back}

-- digits behind others make no number smaller
pub after-le : (radix n : ℕ) (digits : List ℕ) → 1 ≤ radix → n ≤ digits_value_after radix n digits
after-le radix n [] some = omega arith
after-le radix n (digit ∷ digits) some =
    let longer = after-le radix (n * radix + digit_value digit) digits some in
    let times : n ≤ n * radix = le-mul_of_pos_right n (omega arith) in
    omega (arith, longer, times)

-- the digits so far are more than the limit, and so are all
pub too-great : (limit radix value : ℕ) (rest digits : List ℕ) → 2 ≤ radix → 1 ≤ length rest → digits_value_after radix value rest ≡ digits_value radix digits → limit < value * radix + digit_value (get_or rest 0 0) → limit < digits_value radix digits
too-great limit radix value rest digits two some goes great =
    let front : digits_value_after radix value rest ≡ digits_value_after radix (value * radix + digit_value (get_or rest 0 0)) (back_of rest) = ap (digits_value_after radix value) (first_and_back rest some) in
    let longer = after-le radix (value * radix + digit_value (get_or rest 0 0)) (back_of rest) (omega arith) in
    omega (arith, longer, front, goes)

-- all of a run of digits are digits
pub all_digits : (radix : ℕ) (bytes : List ℕ) → AllDigits radix (take_while (λ byte. is_digit byte radix) bytes)
all_digits radix [] = tt
all_digits radix (byte ∷ bytes) =
    let run : List ℕ = take_while (λ one. is_digit one radix) bytes in
    subst (AllDigits radix) (sym (take_while-cons (λ one. is_digit one radix) byte bytes))
    ((elim (is_digit byte radix) as (λ b. is_digit byte radix ≡ b → AllDigits radix (cond b (byte ∷ run) [])) [
      | true ↦ λ e. (ltb-true (digit_value byte) radix e, all_digits radix bytes)
      | false ↦ λ e. tt
    ]) refl)

-- the run of digits ends here
pub run-ends : (radix most len : ℕ) (bytes : List ℕ) (i : ℕ) → len ≡ min most (length bytes) → i ≤ length (take len bytes) → ((k : ℕ) → k < i → is_digit (get_or (take len bytes) k 0) radix ≡ true)
    → (i < length (take len bytes) → is_digit (get_or (take len bytes) i 0) radix ≡ false) → take i (take len bytes) ≡ digits_of radix most bytes
run-ends radix most len bytes i is within are stops =
    let front : List ℕ = take len bytes in
    let run : prefix_len (λ byte. is_digit byte radix) front ≡ i = prefix_len_is (λ byte. is_digit byte radix) front i 0 within are stops in
    let same : front ≡ take most bytes = ap (λ (n : ℕ). take n bytes) is ∙ take_min most bytes in
    ap (λ (n : ℕ). take n front) (sym run) ∙ ap (take_while (λ byte. is_digit byte radix)) same

-- all of the bytes are digits
pub run-whole : (radix most len : ℕ) (bytes : List ℕ) (i : ℕ) → len ≡ min most (length bytes) → length (take len bytes) ≤ i → i ≤ length (take len bytes) → ((k : ℕ) → k < i → is_digit (get_or (take len bytes) k 0) radix ≡ true)
    → take len bytes ≡ digits_of radix most bytes
run-whole radix most len bytes i is past within are =
    sym (take_all i (take len bytes) past) ∙ run-ends radix most len bytes i is within are (λ below. absurd (omega (arith, below, past)))

pub decimal_digits : (text : List ℕ) → list_all is_decimal text ≡ true → AllDigits 10 text
decimal_digits [] all = tt
decimal_digits (byte ∷ text) all =
    let parts = and_parts (is_decimal byte) (list_all is_decimal text) all in
    (ltb-true (digit_value byte) 10 parts.0, decimal_digits text parts.1)
