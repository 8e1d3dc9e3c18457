-- The digits of widths and precisions, read from left to right.
use Rattle.std.proofs.Common.{◌≡◌, ℕ, ◌+◌, ◌-◌, ◌*◌, ◌<◌, ◌≤◌, ◌≢◌, false, List, [], ◌∷◌, length, take, drop, get_or, zero, suc, refl, sym, ap, subst, ◌∙◌, arith}
use Rattle.std.specs.Fmt.{decimal, digits}
use Rattle.std.specs.List.{count_by}
use Rattle.std.specs.Prelude.{◌==◌}
use Rattle.std.specs.Char.{digit_value}
use Rattle.std.specs.Str.Parse.{AllDigits, digits_value}
use Rattle.std.proofs.lemmas.Bool.{lt-ltb, ne_eqb}
use Rattle.std.proofs.lemmas.List.{take-append-drop, drop_more, take_rest}
use Rattle.std.proofs.lemmas.Int.Digits.{digits_more, digits_value_more, digits_value_push}
use Rattle.std.proofs.lemmas.Str.{digit_value_digit}
use Rattle.std.proofs.lemmas.Str.Parse.{IsNumeralModel, digit_from_value, numerals_by_value, tells_digits}
use Rattle.std.proofs.lemmas.Fmt.{decimal-digits_value, digits_decimal, digits_value-decimal, decimal_nonempty, first_decimal}
use Rattle.printf_grammar.specs.declared.piece.Size.TheVariants.{Given}
use Rattle.printf_grammar.specs.declared.fault.FormatCause.TheVariants.{TooWide}
use Rattle.printf_grammar.specs.Spelling.{SpellsDigits, SpellsWidth, stands}
use Rattle.printf_grammar.specs.Parts.{BeginsTooWide}

pub digit_is : (byte : ℕ) → digit_value byte < 10 → digit_value byte ≡ byte - 48
digit_is byte h = omega (arith, digit_value_digit byte (digit_from_value byte h))

-- one more digit
pub digit_more : (bytes : List ℕ) (i n : ℕ) → i < length bytes → SpellsDigits (take i bytes) n → digit_value (get_or bytes i 0) < 10 → n * 10 + (get_or bytes i 0 - 48) ≤ 4095
    → SpellsDigits (take (i + 1) bytes) (n * 10 + (get_or bytes i 0 - 48))
digit_more bytes i n h spelled digit within = record {
  are_digits = digits_more 10 bytes i h spelled.are_digits digit;
  value = digits_value_more 10 bytes i h ∙ rw (spelled.value, digit_is (get_or bytes i 0) digit) refl;
  limit = within;
}

-- a digit that makes the number too great
pub digit_above : (bytes : List ℕ) (i n : ℕ) → i < length bytes → SpellsDigits (take i bytes) n → digit_value (get_or bytes i 0) < 10 → 4095 < n * 10 + (get_or bytes i 0 - 48)
    → BeginsTooWide bytes TooWide (take (length bytes - i) (drop i bytes))
digit_above bytes i n h spelled digit above = subst (BeginsTooWide bytes TooWide) (sym (take_rest bytes i)) (record {
  digits = take i bytes;
  n = n;
  byte = get_or bytes i 0;
  behind = drop (i + 1) bytes;
  joined = sym (take-append-drop i bytes);
  spelled = spelled;
  rest_is = drop_more bytes i 0 h;
  digit = lt-ltb _ _ digit;
  above = let value = digits_value_push 10 (take i bytes) (get_or bytes i 0) in omega (arith, value, spelled.value, digit_is (get_or bytes i 0) digit);
  cause_is = refl;
})

-- ---- widths

numerals : IsNumeralModel (AllDigits 10) (digits_value 10)
numerals = numerals_by_value (AllDigits 10) tells_digits

positive : (digits : List ℕ) (n : ℕ) → get_or digits 0 0 ≢ 48 → digits ≡ decimal n → 0 < n
unfolding digits
positive digits zero first e = absurd (first (rw e refl))
positive digits (suc n) first e = omega arith

-- digits that begin with no `0` are a width
pub digits_width : (digits : List ℕ) (n : ℕ) → SpellsDigits digits n → 0 < length digits → get_or digits 0 0 ≢ 48 → SpellsWidth digits (Given n)
digits_width digits n spelled some first =
    let again : decimal (digits_value 10 digits) ≡ digits = decimal-digits_value numerals digits spelled.are_digits some (λ zero. absurd (first zero)) (omega (arith, spelled.value, spelled.limit)) in
    let same : digits ≡ decimal n = sym again ∙ ap decimal spelled.value in
    (positive digits n first same, spelled.limit, same)

pub width_digits : (width : List ℕ) (n : ℕ) → SpellsWidth width (Given n) → SpellsDigits width n
width_digits width n spelled = rw spelled.2 (record {
  are_digits = digits_decimal numerals n (omega (arith, spelled.1));
  value = digits_value-decimal numerals n (omega (arith, spelled.1));
  limit = spelled.1;
})

pub width_some : (width : List ℕ) (n : ℕ) → SpellsWidth width (Given n) → 0 < length width
width_some width n spelled = rw spelled.2 (decimal_nonempty n (omega (arith, spelled.1)))

pub width_first : (width : List ℕ) (n : ℕ) → SpellsWidth width (Given n) → get_or width 0 0 ≢ 48
width_first width n spelled e =
    let first = first_decimal n spelled.0 (omega (arith, spelled.1)) in
    let zero : get_or (decimal n) 0 0 ≡ 48 = rw spelled.2 at e in
    omega arith

-- ---- no digit is a `*`

no_star_digit : (byte : ℕ) → digit_value byte < 10 → (byte == 42) ≡ false
no_star_digit byte h = ne_eqb byte 42 (λ e. let range = digit_from_value byte h in omega arith)

pub no_star : (digits : List ℕ) → AllDigits 10 digits → stands 42 digits ≡ false
no_star [] all = refl
no_star (byte ∷ digits) all = rw (no_star_digit byte all.0, no_star digits all.1) refl

pub no_stars : (digits : List ℕ) → AllDigits 10 digits → count_by (λ byte. byte == 42) digits ≡ 0
no_stars [] all = refl
no_stars (byte ∷ digits) all = rw (no_star_digit byte all.0, no_stars digits all.1) refl
