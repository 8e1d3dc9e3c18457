-- What a `%d` without flags, width and precision writes.
use Rattle.std.proofs.Common.{◌≡◌, ℕ, suc, ◌-◌, ◌<◌, ◌^◌, false, List, [], ◌∷◌, ◌++◌, length, take, drop, replicate, ℤ, pos, negsuc, FitsSigned, w8, w64, Option, Some, None, is_some, Bool, cond, neg_ℤ, get_or, codes, ◌+◌, ◌≤◌, ◌==◌, ◌&&◌, refl, sym, ◌∙◌, ap, arith}
use Rattle.std.specs.Int.{w16, int_wrap}
use Rattle.std.proofs.Math.Bool.{and-false}
use Rattle.std.proofs.lemmas.Bool.Decides.{nat_tests}
use Rattle.std.proofs.lemmas.Int.{SFits-int_wrap}
use Rattle.std.proofs.lemmas.List.{append_assoc, take-append-le, take-replicate, take-append-drop}
use Rattle.std.proofs.lemmas.Fmt.{decimal_nonempty, decimal_is_IsNumeral}
use Rattle.std.proofs.lemmas.Str.Parse.{digit_at, without_leading_plus_none}
use Rattle.std.specs.Fmt.{decimal, signed_decimal}
use Rattle.std.specs.Str.Parse.{digits_value, signed_digits_value, starts_with_minus, without_leading_plus}
use Rattle.printf_grammar.specs.declared.piece.Length.{Length}
use Rattle.printf_grammar.specs.declared.piece.Length.TheVariants.{Plain, HH, H, L, LL, J, Z, T}
use Rattle.printf_grammar.specs.declared.piece.Spec.{Spec}
use Rattle.printf_grammar.specs.declared.argument.Value.TheVariants as values
use Rattle.printf_grammar.specs.Narrow.{plain_d}
use Rattle.direct_printf.specs.Fields.{Digits, Field, wrap_signed, sign_of, signed_number, unsigned_number, padded}
use Rattle.direct_printf.proofs.Padded.{padded-no_width}
use Rattle.direct_printf.proofs.Spelling.{Digits-some}

-- at precision 1 nothing stands in front of the least spelling
Digits-one : (n : ℕ) → n < 2 ^ 64 → Digits n 10 false 1 ≡ decimal n
unfolding Digits
Digits-one n h =
    let short : 1 - length (decimal n) ≡ 0 = omega (arith, decimal_nonempty n h) in
    rw (and-false, short)

-- a wrapped number is still one of 64 bits
wrap_signed-fits : (length : Length) (z : ℤ) → FitsSigned w64 z → FitsSigned w64 (wrap_signed length z)
wrap_signed-fits Plain z fits = fits
wrap_signed-fits HH z fits = let wrapped : FitsSigned w8 (int_wrap w8 z) = SFits-int_wrap w8 z in record { sfits = omega (arith, wrapped.sfits) }
wrap_signed-fits H z fits = let wrapped : FitsSigned w16 (int_wrap w16 z) = SFits-int_wrap w16 z in record { sfits = omega (arith, wrapped.sfits) }
wrap_signed-fits L z fits = fits
wrap_signed-fits LL z fits = fits
wrap_signed-fits J z fits = fits
wrap_signed-fits Z z fits = fits
wrap_signed-fits T z fits = fits

-- a number that is not negative has no sign without flags
sign_of-pos : (spec : Spec) (n : ℕ) → spec.plus ≡ false → spec.space ≡ false → sign_of spec (pos n) ≡ []
sign_of-pos spec n plus space = rw (plus, space) (grind (arith, nat_tests))

-- without flags, width and precision a number has its decimal spelling
pub plain_signed : (left zeros : Bool) (width : ℕ) (spec : Spec) (precision : Option ℕ) (z : ℤ) → FitsSigned w64 z → width ≡ 0 → is_some precision ≡ false → spec.plus ≡ false → spec.space ≡ false → padded left zeros width (signed_number spec precision z) ≡ signed_decimal z
plain_signed left zeros width spec (Some most) z h no_width no_precision plus space = absurd cc
plain_signed left zeros width spec None (pos n) h no_width no_precision plus space =
    let small : n < 2 ^ 64 = omega (arith, h.sfits) in
    rw no_width (padded-no_width left zeros (signed_number spec None (pos n)) ∙ rw (sign_of-pos spec n plus space, Digits-one n small))
plain_signed left zeros width spec None (negsuc n) h no_width no_precision plus space =
    let small : suc n < 2 ^ 64 = omega (arith, h.sfits) in
    rw no_width (padded-no_width left zeros (signed_number spec None (negsuc n)) ∙ rw (Digits-one (suc n) small))

pub plain_unsigned : (left zeros : Bool) (width : ℕ) (precision : Option ℕ) (n : ℕ) → n < 2 ^ 64 → width ≡ 0 → is_some precision ≡ false → padded left zeros width (unsigned_number precision n) ≡ decimal n
plain_unsigned left zeros width (Some most) n h no_width no_precision = absurd cc
plain_unsigned left zeros width None n h no_width no_precision =
    rw no_width (padded-no_width left zeros (unsigned_number None n) ∙ Digits-one n h)

Field-plain_d : (length : Length) (z : ℤ) → FitsSigned w64 z → Field (record plain_d { length = length }) (values.Signed z ∷ []) ≡ signed_decimal (wrap_signed length z)
unfolding Field
Field-plain_d length z fits = plain_signed false false 0 (record plain_d { length = length }) None (wrap_signed length z) (wrap_signed-fits length z fits) refl refl refl refl

-- bytes without a sign read as their digits
value_without_sign : (minus : Bool) (bytes : List ℕ) (n : ℕ) → minus ≡ false → without_leading_plus bytes ≡ bytes → digits_value 10 bytes ≡ n → cond minus (neg_ℤ (pos (digits_value 10 (cond minus (drop 1 bytes) (without_leading_plus bytes))))) (pos (digits_value 10 (cond minus (drop 1 bytes) (without_leading_plus bytes)))) ≡ pos n
value_without_sign minus bytes n no_minus no_plus value =
    rw no_minus (ap (λ bs. pos (digits_value 10 bs)) no_plus ∙ ap pos value)

-- which reads back as the number
signed_digits_value-decimal : (z : ℤ) → FitsSigned w64 z → signed_digits_value 10 (signed_decimal z) ≡ z
signed_digits_value-decimal (pos n) h =
    let small : n < 2 ^ 64 = omega (arith, h.sfits) in
    let numeral = decimal_is_IsNumeral n small in
    let first = digit_at (decimal n) 0 numeral.0.1 numeral.0.0 in
    let no_minus : starts_with_minus (decimal n) ≡ false = grind (arith, nat_tests) in
    let no_plus : get_or (decimal n) 0 0 ≡ 43 → ⊥ = λ plus. absurd (omega (arith, plus, first)) in
    value_without_sign (starts_with_minus (decimal n)) (decimal n) n no_minus (without_leading_plus_none (decimal n) no_plus) numeral.1
signed_digits_value-decimal (negsuc n) h =
    let small : suc n < 2 ^ 64 = omega (arith, h.sfits) in
    let numeral = decimal_is_IsNumeral (suc n) small in
    ap (λ k. neg_ℤ (pos k)) numeral.1

pub plain_d_reads_back : (length : Length) (z : ℤ) → FitsSigned w64 z → signed_digits_value 10 (Field (record plain_d { length = length }) (values.Signed z ∷ [])) ≡ wrap_signed length z
plain_d_reads_back length z fits =
    ap (signed_digits_value 10) (Field-plain_d length z fits) ∙ signed_digits_value-decimal (wrap_signed length z) (wrap_signed-fits length z fits)

-- nine digits behind a point, and a space: the least spelling is written over the last of nine zeros
pub Digits-nine : (n start : ℕ) (text : List ℕ) → length (decimal n) ≤ 9 → start + length (decimal n) ≡ 10 → take start text ≡ take start (codes ".000000000 ") → drop start text ≡ decimal n ++ codes " " → text ≡ 46 ∷ Digits n 10 false 9 ++ 32 ∷ []
Digits-nine n start text most ends before written =
    let wanting : List ℕ = replicate (9 - length (decimal n)) 48 in
    let at : start ≡ suc (9 - length (decimal n)) = omega arith in
    let shown : take (9 - length (decimal n)) (replicate 9 48 ++ 32 ∷ []) ≡ wanting = take-append-le _ (replicate 9 48) (32 ∷ []) (omega arith) ∙ take-replicate _ 9 48 (omega arith) in
    let front : take start text ≡ 46 ∷ wanting = before ∙ rw at (ap (λ l. 46 ∷ l) shown) in
    let whole : 46 ∷ (wanting ++ (decimal n ++ 32 ∷ [])) ≡ text = rw (front, written) at (take-append-drop start text) in
    let some : (n == 0 && 9 == 0) ≡ false = rw and-false in
    let spelled : wanting ++ decimal n ≡ Digits n 10 false 9 = Digits-some n 10 9 false (decimal n) some refl in
    sym whole ∙ ap (λ l. 46 ∷ l) (sym (append_assoc wanting (decimal n) (32 ∷ [])) ∙ ap (λ l. l ++ 32 ∷ []) spelled)
