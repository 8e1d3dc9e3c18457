-- Which cause a byte has behind a head.
use Rattle.std.proofs.Common.{◌≡◌, ℕ, ◌≤◌, Bool, true, false, not, ◌&&◌, ◌||◌, length, Some, None, refl, ◌∙◌, arith}
use Rattle.std.specs.Prelude.{if◌then◌else◌, ◌==◌, codes}
use Rattle.std.specs.Char.{is_digit}
use Rattle.std.proofs.lemmas.Bool.{agree_below, agree_below_at, or_from, or_left, or_right, not_from_true, ltb-true, and_left, and_right}
use Rattle.std.proofs.lemmas.Str.Parse.{digit_from_value}
use Rattle.printf_grammar.specs.declared.piece.Length.{Length}
use Rattle.printf_grammar.specs.declared.piece.Length.TheVariants as lengths
use Rattle.printf_grammar.specs.declared.piece.Conversion.{Conversion}
use Rattle.printf_grammar.specs.declared.piece.Conversion.TheVariants as conversions
use Rattle.printf_grammar.specs.declared.fault.FormatCause.TheVariants.{TooWide, Nul, TooManyArgs}
use Rattle.printf_grammar.specs.Spelling.{stands, TakesLength, conversion_byte, length_bytes}
use Rattle.printf_grammar.specs.Breaks.{Head, is_only, is_empty_head, is_float, is_wide, is_bad_length, is_conversion, goes_on, is_too_wide, takes_flag, takes_width_star, takes_width_digit, takes_period, takes_precision_star, takes_precision_digit, takes_modifier, takes_argument, cause_in}

-- ---- a byte that goes on

by_c : (a b c d e f g h i : Bool) → c ≡ true → (a || b || c || d || e || f || g || h || i) ≡ true
by_c a b c d e f g h i p = or_left _ _ (or_left _ _ (or_left _ _ (or_left _ _ (or_left _ _ (or_left _ _ (or_right _ _ p))))))

by_e : (a b c d e f g h i : Bool) → e ≡ true → (a || b || c || d || e || f || g || h || i) ≡ true
by_e a b c d e f g h i p = or_left _ _ (or_left _ _ (or_left _ _ (or_left _ _ (or_right _ _ p))))

by_f : (a b c d e f g h i : Bool) → f ≡ true → (a || b || c || d || e || f || g || h || i) ≡ true
by_f a b c d e f g h i p = or_left _ _ (or_left _ _ (or_left _ _ (or_right _ _ p)))

pub on_width_digit : (head : Head) (byte : ℕ) → takes_width_digit head byte ≡ true → goes_on head byte ≡ true
on_width_digit head byte takes = by_c (takes_flag head byte) (takes_width_star head byte) (takes_width_digit head byte) (takes_period head byte) (takes_precision_star head byte) (takes_precision_digit head byte) (takes_modifier head byte) (is_conversion byte) (byte == 37 && is_empty_head head) takes

pub on_precision_star : (head : Head) (byte : ℕ) → takes_precision_star head byte ≡ true → goes_on head byte ≡ true
on_precision_star head byte takes = by_e (takes_flag head byte) (takes_width_star head byte) (takes_width_digit head byte) (takes_period head byte) (takes_precision_star head byte) (takes_precision_digit head byte) (takes_modifier head byte) (is_conversion byte) (byte == 37 && is_empty_head head) takes

pub on_precision_digit : (head : Head) (byte : ℕ) → takes_precision_digit head byte ≡ true → goes_on head byte ≡ true
on_precision_digit head byte takes = by_f (takes_flag head byte) (takes_width_star head byte) (takes_width_digit head byte) (takes_period head byte) (takes_precision_star head byte) (takes_precision_digit head byte) (takes_modifier head byte) (is_conversion byte) (byte == 37 && is_empty_head head) takes

-- ---- a conversion

only_L : (length : Length) → is_only 76 (length_bytes length) ≡ false
only_L lengths.Plain = refl
only_L lengths.HH = refl
only_L lengths.H = refl
only_L lengths.L = refl
only_L lengths.LL = refl
only_L lengths.J = refl
only_L lengths.Z = refl
only_L lengths.T = refl

-- a conversion that takes its length breaks only as the 65th argument
pub conversion_cause : (head : Head) (count : ℕ) (conversion : Conversion) (length : Length) → head.modifier ≡ length_bytes length → TakesLength conversion length
    → cause_in head count (conversion_byte conversion) ≡ (if count == 64 then Some TooManyArgs else None)
conversion_cause head count conversions.D length e takes = rw (e, only_L length) refl
conversion_cause head count conversions.I length e takes = rw (e, only_L length) refl
conversion_cause head count conversions.O length e takes = rw (e, only_L length) refl
conversion_cause head count conversions.U length e takes = rw (e, only_L length) refl
conversion_cause head count conversions.X length e takes = rw (e, only_L length) refl
conversion_cause head count conversions.UpperX length e takes = rw (e, only_L length) refl
conversion_cause head count conversions.C length e takes = rw (e, takes) refl
conversion_cause head count conversions.S length e takes = rw (e, takes) refl
conversion_cause head count conversions.P length e takes = rw (e, takes) refl

-- ---- a digit

digit_range : (byte : ℕ) → is_digit byte 10 ≡ true → (48 ≤ byte) × (byte ≤ 57)
digit_range byte e = digit_from_value byte (ltb-true _ _ e)

-- a test that fails for each digit
pub digit_fails : (test : ℕ → Bool) (byte : ℕ) → is_digit byte 10 ≡ true → agree_below (λ k. is_digit k 10 && test k) (λ k. false) 58 ≡ true → test byte ≡ false
digit_fails test byte e fails =
    let range = digit_range byte e in
    let both : (is_digit byte 10 && test byte) ≡ false = agree_below_at (λ k. is_digit k 10 && test k) (λ k. false) 58 byte fails (omega arith) in
    rw e at both

-- the causes before `TooWide`, of which none fits
pub record NoneBefore (head : Head) (byte : ℕ) : Type 0 where
  pub float : is_float byte ≡ false
  pub wide : is_wide head byte ≡ false
  pub store : (byte == 110) ≡ false
  pub bad_percent : (byte == 37 && not (is_empty_head head)) ≡ false
  pub bad_length : is_bad_length head byte ≡ false
  pub unknown : (not (byte == 0) && not (goes_on head byte)) ≡ false

-- what is left of the causes then
pub cause_after : (head : Head) (count byte : ℕ) → NoneBefore head byte
    → cause_in head count byte ≡ (if is_too_wide head byte then Some TooWide else (if byte == 0 then Some Nul else (if takes_argument head byte && count == 64 then Some TooManyArgs else None)))
cause_after head count byte none = rw (none.float, none.wide, none.store, none.bad_percent, none.bad_length, none.unknown) refl

-- where a digit goes on with the head, no cause before `TooWide` fits
digit_none : (head : Head) (byte : ℕ) → is_digit byte 10 ≡ true → goes_on head byte ≡ true → NoneBefore head byte
digit_none head byte e on = record {
  float = digit_fails is_float byte e refl;
  wide = and_left _ _ (digit_fails (λ k. stands k (codes "cs")) byte e refl);
  store = digit_fails (λ k. k == 110) byte e refl;
  bad_percent = and_left _ _ (digit_fails (λ k. k == 37) byte e refl);
  bad_length = or_from _ _ (and_left _ _ (digit_fails (λ k. stands k (codes "csp")) byte e refl)) (and_left _ _ (digit_fails is_conversion byte e refl));
  unknown = and_right _ _ (not_from_true _ on);
}

digit_takes_none : (head : Head) (byte : ℕ) → is_digit byte 10 ≡ true → takes_argument head byte ≡ false
digit_takes_none head byte e =
    let no_star : (byte == 42) ≡ false = digit_fails (λ k. k == 42) byte e refl in
    let no_conversion : is_conversion byte ≡ false = digit_fails is_conversion byte e refl in
    rw (no_star, no_conversion) refl

pub digit_cause : (head : Head) (count byte : ℕ) → is_digit byte 10 ≡ true → goes_on head byte ≡ true → cause_in head count byte ≡ (if is_too_wide head byte then Some TooWide else None)
digit_cause head count byte e on =
    let no_argument : (takes_argument head byte && count == 64) ≡ false = and_left _ _ (digit_takes_none head byte e) in
    let no_nul : (byte == 0) ≡ false = digit_fails (λ k. k == 0) byte e refl in
    cause_after head count byte (digit_none head byte e on) ∙ rw (no_nul, no_argument) refl

-- ---- a `*`

star_none : (head : Head) → goes_on head 42 ≡ true → NoneBefore head 42
star_none head on = record { float = refl; wide = refl; store = refl; bad_percent = refl; bad_length = refl; unknown = rw on refl }

pub star_cause : (head : Head) (count : ℕ) → goes_on head 42 ≡ true → takes_argument head 42 ≡ true → cause_in head count 42 ≡ (if count == 64 then Some TooManyArgs else None)
star_cause head count on takes = cause_after head count 42 (star_none head on) ∙ rw takes refl
