-- Numbers and names as the values of options.
use Rattle.std.proofs.Common.{arith, get_or, length, Result, Ok, Err, ◌≢◌, ◌≡◌, ◌∙◌, ◌<◌, ◌≤◌, ◌^◌, ℕ, Bool, true, false, Option, Some, None, refl, sym, ap}
use Rattle.std.specs.Prelude.{◌==◌, nat_le, nat_lt, slice_index}
use Rattle.std.specs.Fmt.{decimal}
use Rattle.std.specs.Str.{all_ascii_digits}
use Rattle.std.specs.Str.Parse.{ParsesUnsigned, digits_value}
use Rattle.std.proofs.lemmas.Bool.{true≢false, leb-true, le-leb, ltb-true, lt-ltb}
use Rattle.std.proofs.lemmas.Fmt.{digits_decimal, digits_value-decimal, decimal_nonempty, length-decimal-le}
use Rattle.std.proofs.lemmas.Str.Parse.{IsNumeralModel, numerals_by_value, parse_plain, tells_all_ascii_digits}
use Rattle.log_dictionary.specs.Severities.{severity_name}
use Rattle.log_dictionary.specs.declared.severity.Severity.{Severity}
use Rattle.log_dictionary.specs.declared.severity.Severity.TheVariants.{Error, Warning, Notice, Debug}
use Rattle.session_options.specs.declared.options.Policy.{Policy}
use Rattle.session_options.specs.declared.options.Policy.TheVariants.{Wait, Shed}
use Rattle.cli_words.specs.Commands.{WordBytes, number_within, policy_named, severity_named}
use Rattle.cli_words.specs.Rows.{policy_name}
use Rattle.cli_words.specs.declared.numbers.TheConstants.{MAX_DIGITS}

-- digits and their number
pub numerals : IsNumeralModel (λ digits. all_ascii_digits digits ≡ true) (digits_value 10)
numerals = numerals_by_value _ tells_all_ascii_digits

-- the digits of a number spell it
pub number_spelled : (least most n : ℕ) → least ≤ n → n ≤ most → n < 2 ^ 64
    → number_within least most (decimal n) ≡ Some n
number_spelled least most n low high small =
    let digits : all_ascii_digits (decimal n) ≡ true = digits_decimal numerals n small in
    let value : digits_value 10 (decimal n) ≡ n = digits_value-decimal numerals n small in
    let few : length (decimal n) ≤ MAX_DIGITS = length-decimal-le 20 n (omega arith) (omega arith) small in
    rw (
      digits,
      lt-ltb 0 (length (decimal n)) (decimal_nonempty n small),
      le-leb (length (decimal n)) MAX_DIGITS few,
      value,
      le-leb least n low,
      le-leb n most high,
    ) refl

-- what is true of digits, where they spell a number within these bounds
abbrev Spells : ℕ → ℕ → WordBytes → Option ℕ → Type 0
Spells least most digits None = Unit {0}
Spells least most digits (Some n) =
    (all_ascii_digits digits ≡ true) × (0 < length digits) × (digits_value 10 digits ≡ n) × (least ≤ n) × (n ≤ most)

number_spells : (least most : ℕ) (digits : WordBytes) → Spells least most digits (number_within least most digits)
number_spells least most digits =
    go (all_ascii_digits digits) refl (nat_lt 0 (length digits)) refl (nat_le (length digits) MAX_DIGITS) refl
    (nat_le least (digits_value 10 digits)) refl (nat_le (digits_value 10 digits) most) refl
  where
    go : (a : Bool) → all_ascii_digits digits ≡ a → (b : Bool) → nat_lt 0 (length digits) ≡ b
        → (c : Bool) → nat_le (length digits) MAX_DIGITS ≡ c → (d : Bool) → nat_le least (digits_value 10 digits) ≡ d
        → (e : Bool) → nat_le (digits_value 10 digits) most ≡ e
        → Spells least most digits (number_within least most digits)
    go false p b q c r d s e t = rw p tt
    go true p false q c r d s e t = rw (p, q) tt
    go true p true q false r d s e t = rw (p, q, r) tt
    go true p true q true r false s e t = rw (p, q, r, s) tt
    go true p true q true r true s false t = rw (p, q, r, s, t) tt
    go true p true q true r true s true t =
        rw (p, q, r, s, t) (
          p,
          ltb-true 0 (length digits) q,
          refl,
          leb-true least (digits_value 10 digits) s,
          leb-true (digits_value 10 digits) most t,
        )

-- such a number lies in its bounds
abbrev pub LiesIn : ℕ → ℕ → Option ℕ → Type 0
LiesIn least most None = Unit {0}
LiesIn least most (Some n) = (least ≤ n) × (n ≤ most)

pub number_lies : (least most : ℕ) (digits : WordBytes) → LiesIn least most (number_within least most digits)
number_lies least most digits = go (number_within least most digits) (number_spells least most digits)
  where
    go : (found : Option ℕ) → Spells least most digits found → LiesIn least most found
    go None spells = tt
    go (Some n) spells = (spells.3, spells.4)

-- digits that don't begin with `+`
pub unsigned_start : (digits : WordBytes) (plus : Bool) → plus ≡ (slice_index digits 0 == 43) → plus ≡ false
    → get_or digits 0 0 ≢ 43
unsigned_start digits plus tested none first = true≢false (sym (tested ∙ eqb-is (get_or digits 0 0) first) ∙ none)
  where
    eqb-is : (byte : ℕ) → byte ≡ 43 → (byte == 43) ≡ true
    eqb-is byte same = rw same refl

-- what `parse` reads of such digits
pub number_read : {E : Type 0} (least most n : ℕ) (digits : WordBytes) (r : Result ℕ E) → ParsesUnsigned 64 10 digits r
    → get_or digits 0 0 ≢ 43 → length digits ≤ MAX_DIGITS → r ≡ Ok n → least ≤ n → n ≤ most
    → Some n ≡ number_within least most digits
number_read least most n digits r parses unsigned few is low high =
    let read = rw is at (parse_plain numerals 64 digits r parses unsigned) in
    let value : n ≡ digits_value 10 digits = read.1 in
    rw (
      read.0.0,
      lt-ltb 0 (length digits) read.0.1,
      le-leb (length digits) MAX_DIGITS few,
      le-leb least (digits_value 10 digits) (omega arith),
      le-leb (digits_value 10 digits) most (omega arith),
    ) (ap (λ (number : ℕ). Some number) value)

-- what it doesn't read
pub number_refused : {E : Type 0} (least most : ℕ) (error : E) (digits : WordBytes) (r : Result ℕ E) → ParsesUnsigned 64 10 digits r
    → get_or digits 0 0 ≢ 43 → r ≡ Err error → most < 2 ^ 64 → None ≡ number_within least most digits
number_refused least most error digits r parses unsigned is small =
    let refused = rw is at (parse_plain numerals 64 digits r parses unsigned) in
    go refused (number_within least most digits) (number_spells least most digits)
  where
    go : ((all_ascii_digits digits ≡ true) × (0 < length digits) × (digits_value 10 digits < 2 ^ 64) → ⊥)
        → (found : Option ℕ) → Spells least most digits found → None ≡ found
    go refused None spells = refl
    go refused (Some n) spells =
        absurd (refused (spells.0, spells.1, omega (arith, spells.2, spells.4)))

pub policy_is : (policy : Policy) → policy_named (policy_name policy) ≡ Some policy
policy_is Wait = refl
policy_is Shed = refl

pub named_severity : (severity : Severity) → severity_named (severity_name severity) ≡ Some severity
named_severity Error = refl
named_severity Warning = refl
named_severity Notice = refl
named_severity Debug = refl
