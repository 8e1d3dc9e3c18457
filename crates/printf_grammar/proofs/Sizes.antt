-- Widths and precisions that bytes begin with, and where they break.
use Rattle.std.proofs.Common.{◌≡◌, ◌≢◌, ℕ, ◌+◌, ◌<◌, ◌≤◌, Bool, true, false, ◌&&◌, ◌||◌, List, [], ◌∷◌, ◌++◌, length, get_or, inl, refl, sym, ap, ◌∙◌, arith, append_assoc}
use Rattle.std.specs.Prelude.{◌==◌, nat_lt}
use Rattle.std.specs.Char.{is_digit}
use Rattle.std.specs.List.{AllByRecursion, count_by}
use Rattle.std.specs.Str.Parse.{digits_value}
use Rattle.std.proofs.lemmas.Bool.{lt-ltb, ltb-true, ne_eqb, and_from, and_left, and_right, or_left, or_right, or_from, true≢false}
use Rattle.std.proofs.lemmas.List.{append-nil}
use Rattle.std.proofs.lemmas.Str.{digit_value_digit}
use Rattle.std.proofs.lemmas.List.Sums.{sum_by-append}
use Rattle.printf_grammar.specs.declared.fault.FormatCause.{FormatCause}
use Rattle.printf_grammar.specs.declared.fault.FormatCause.TheVariants.{TooManyArgs}
use Rattle.printf_grammar.specs.declared.piece.Size.{Size}
use Rattle.printf_grammar.specs.declared.piece.Size.TheVariants.{Absent, Star, Given}
use Rattle.printf_grammar.specs.declared.piece.Length.TheVariants as lengths
use Rattle.printf_grammar.specs.declared.arg_type.ArgType.{ArgType}
use Rattle.printf_grammar.specs.Types.{size_types}
use Rattle.printf_grammar.specs.Spelling.{IsFlag, SpellsWidth, SpellsPrecision}
use Rattle.printf_grammar.specs.Breaks.{Head, IsHead, head_bytes, is_empty, is_only, goes_on, is_too_wide, takes_argument, takes_width_star, takes_width_digit, takes_precision_star, takes_precision_digit, is_conversion}
use Rattle.printf_grammar.specs.Parts.{BeginsWithout, BeginsWithDigits, BeginsTooWide, BeginsWithWidth, BeginsWithPrecision, width_goes_on, precision_goes_on, after_flags, after_width, Stops}
use Rattle.printf_grammar.proofs.Behind.{on_width_digit, on_precision_star, on_precision_digit, digit_cause, star_cause}
use Rattle.printf_grammar.proofs.Numbers.{digits_width, width_digits, no_star, no_stars}

-- ---- heads

abbrev pub after_precision : List ℕ → List ℕ → List ℕ → Head
after_precision flags width precision = record { flags = flags; width = width; precision = precision; modifier = [] }

pub head_after_flags : (flags : List ℕ) → AllByRecursion IsFlag flags → IsHead (after_flags flags)
head_after_flags flags are_flags = record { flags = are_flags; width = (Absent, refl); precision = (Absent, refl); modifier = inl (lengths.Plain, refl) }

pub head_after_width : (flags width : List ℕ) (size : Size) → AllByRecursion IsFlag flags → SpellsWidth width size → IsHead (after_width flags width)
head_after_width flags width size are_flags spelled = record { flags = are_flags; width = (size, spelled); precision = (Absent, refl); modifier = inl (lengths.Plain, refl) }

pub head_after_precision : (flags width precision : List ℕ) (size most : Size) → AllByRecursion IsFlag flags → SpellsWidth width size → SpellsPrecision precision most → IsHead (after_precision flags width precision)
head_after_precision flags width precision size most are_flags spelled precise = record { flags = are_flags; width = (size, spelled); precision = (most, precise); modifier = inl (lengths.Plain, refl) }

joins_width : (flags width bytes rest : List ℕ) → bytes ≡ width ++ rest → head_bytes (after_flags flags) ++ bytes ≡ head_bytes (after_width flags width) ++ rest
joins_width flags width bytes rest e =
    let lists : (((flags ++ []) ++ []) ++ []) ++ (width ++ rest) ≡ (((flags ++ width) ++ []) ++ []) ++ rest = simp (append-nil, append_assoc) in
    rw e (ap (λ (back : List ℕ). 37 ∷ back) lists)

joins : (flags width precision bytes rest : List ℕ) → bytes ≡ precision ++ rest → head_bytes (after_width flags width) ++ bytes ≡ head_bytes (after_precision flags width precision) ++ rest
joins flags width precision bytes rest e =
    let lists : (((flags ++ width) ++ []) ++ []) ++ (precision ++ rest) ≡ (((flags ++ width) ++ precision) ++ []) ++ rest = simp (append-nil, append_assoc) in
    rw e (ap (λ (back : List ℕ). 37 ∷ back) lists)

-- ---- stars

pub stars_join : (xs ys : List ℕ) → count_by (λ byte. byte == 42) (xs ++ ys) ≡ count_by (λ byte. byte == 42) xs + count_by (λ byte. byte == 42) ys
stars_join xs ys = sum_by-append _ xs ys

pub width_stars : (type : ArgType) (width : List ℕ) (size : Size) → SpellsWidth width size → count_by (λ byte. byte == 42) width ≡ length (size_types type size)
width_stars type width Absent spelled = rw spelled refl
width_stars type width Star spelled = rw spelled refl
width_stars type width (Given n) spelled = no_stars width (width_digits width n spelled).are_digits

pub precision_stars : (type : ArgType) (precision : List ℕ) (size : Size) → SpellsPrecision precision size → count_by (λ byte. byte == 42) precision ≡ length (size_types type size)
precision_stars type precision Absent spelled = rw spelled refl
precision_stars type precision Star spelled = rw spelled refl
precision_stars type precision (Given n) spelled = rw spelled.1 (no_stars spelled.0 spelled.2.are_digits)

-- ---- a width

all_digits_end : (rest : List ℕ) → BeginsWithout (λ byte. is_digit byte 10) rest → (test : ℕ → Bool) → ((byte : ℕ) → is_digit byte 10 ≡ false → test byte ≡ false) → BeginsWithout test rest
all_digits_end [] ended test also = tt
all_digits_end (byte ∷ rest) ended test also = also byte ended

is_empty_some : (bytes : List ℕ) → 0 < length bytes → is_empty bytes ≡ false
is_empty_some [] h = absurd (omega arith)
is_empty_some (byte ∷ bytes) h = refl

-- a first digit that isn't `0` stands among the digits
some_digits : (bytes digits rest : List ℕ) → bytes ≡ digits ++ rest → BeginsWithout (λ byte. is_digit byte 10) rest → 0 < length bytes → is_digit (get_or bytes 0 0) 10 ≡ true → (0 < length digits) × (get_or digits 0 0 ≡ get_or bytes 0 0)
some_digits bytes [] [] e ended some digit = absurd (let h = ap length e in omega arith)
some_digits bytes [] (byte ∷ rest) e ended some digit = absurd (true≢false (sym digit ∙ rw e ended))
some_digits bytes (byte ∷ digits) rest e ended some digit = (omega arith, rw e refl)

first_digit : (byte : ℕ) → 49 ≤ byte → byte ≤ 57 → is_digit byte 10 ≡ true
first_digit byte low high = lt-ltb _ _ (let value = digit_value_digit byte (omega arith, omega arith) in omega arith)

pub width_given : (bytes : List ℕ) (n : ℕ) (rest : List ℕ) → BeginsWithDigits bytes n rest → 0 < length bytes → 49 ≤ get_or bytes 0 0 → get_or bytes 0 0 ≤ 57 → BeginsWithWidth bytes (Given n) rest
width_given bytes n rest begins some low high =
    let first = some_digits bytes begins.digits rest begins.joined begins.ended some (first_digit _ low high) in
    record {
      width = begins.digits;
      joined = begins.joined;
      spelled = digits_width begins.digits n begins.spelled first.0 (λ e. omega (arith, first.1));
      ended = all_digits_end rest begins.ended (width_goes_on begins.digits) (λ byte e. or_from _ _ (and_right _ _ (is_empty_some begins.digits first.0)) (and_left _ _ e));
    }

pub width_star_stops : (taken : ℕ) (bytes flags : List ℕ) → 0 < length bytes → get_or bytes 0 0 ≡ 42 → taken ≡ 64 → AllByRecursion IsFlag flags → Stops (after_flags flags) taken bytes TooManyArgs bytes
width_star_stops taken [] flags some first full are_flags = absurd (omega arith)
width_star_stops taken (byte ∷ bytes) flags some first full are_flags = record {
  head = after_flags flags;
  joined = refl;
  right = head_after_flags flags are_flags;
  stars = refl;
  stops = rw (first, full) refl;
}

-- a digit that makes a number too great isn't the first
not_first : (digits : List ℕ) (byte : ℕ) → is_digit byte 10 ≡ true → 4095 < digits_value 10 (digits ++ byte ∷ []) → 0 < length digits
not_first [] byte digit above = let small = ltb-true _ _ digit in absurd (omega arith)
not_first (first ∷ digits) byte digit above = omega arith

same_first : (bytes digits rest : List ℕ) → bytes ≡ digits ++ rest → 0 < length digits → get_or digits 0 0 ≡ get_or bytes 0 0
same_first bytes [] rest e some = absurd (omega arith)
same_first bytes (byte ∷ digits) rest e some = rw e refl

pub width_stops : (taken : ℕ) (bytes flags : List ℕ) (cause : FormatCause) (rest : List ℕ) → BeginsTooWide bytes cause rest → 49 ≤ get_or bytes 0 0 → AllByRecursion IsFlag flags → Stops (after_flags flags) taken bytes cause rest
width_stops taken bytes flags cause rest begins low are_flags =
    let digits = begins.digits in
    let some = not_first digits begins.byte begins.digit begins.above in
    let first = same_first bytes digits rest begins.joined some in
    let head = after_width flags digits in
    let takes : takes_width_digit head begins.byte ≡ true = rw (begins.digit, no_star digits begins.spelled.are_digits) refl in
    let above : nat_lt 4095 (digits_value 10 (digits ++ begins.byte ∷ [])) ≡ true = lt-ltb _ _ begins.above in
    record {
      head = head;
      joined = joins_width flags digits bytes rest begins.joined;
      right = head_after_width flags digits (Given begins.n) are_flags (digits_width digits begins.n begins.spelled some (λ e. omega arith));
      stars = simp append-nil (no_stars digits begins.spelled.are_digits);
      stops = rw (begins.rest_is, begins.cause_is) (digit_cause head taken begins.byte begins.digit (on_width_digit head begins.byte takes) ∙ rw (takes, above) refl);
    }

-- ---- a precision

precision_ends : (precision : List ℕ) (byte : ℕ) → is_empty precision ≡ false → (byte == 42 && is_only 46 precision) ≡ false → is_digit byte 10 ≡ false → precision_goes_on precision byte ≡ false
precision_ends precision byte some no_star no_digit = or_from _ _ (or_from _ _ (and_right (byte == 46) (is_empty precision) some) no_star) (and_left _ _ (and_left _ _ no_digit))

pub precision_given : (bytes behind : List ℕ) (n : ℕ) (rest : List ℕ) → BeginsWithDigits behind n rest → bytes ≡ 46 ∷ behind → (0 < length behind → get_or behind 0 0 ≢ 42) → BeginsWithPrecision bytes (Given n) rest
precision_given bytes behind n rest begins e other = record {
  precision = 46 ∷ begins.digits;
  joined = e ∙ ap (λ (bytes : List ℕ). 46 ∷ bytes) begins.joined;
  spelled = (begins.digits, refl, begins.spelled);
  ended = ends begins.digits rest behind begins.joined begins.ended other;
}
  where
    ends : (digits rest behind : List ℕ) → behind ≡ digits ++ rest → BeginsWithout (λ byte. is_digit byte 10) rest → (0 < length behind → get_or behind 0 0 ≢ 42) → BeginsWithout (precision_goes_on (46 ∷ digits)) rest
    ends digits [] behind e ended other = tt
    ends [] (byte ∷ rest) behind e ended other = precision_ends (46 ∷ []) byte refl (and_left _ _ (ne_eqb byte 42 (rw e at other (omega arith)))) ended
    ends (digit ∷ digits) (byte ∷ rest) behind e ended other = precision_ends (46 ∷ digit ∷ digits) byte refl (and_right (byte == 42) false refl) ended

pub precision_star_stops : (taken : ℕ) (bytes behind flags width : List ℕ) (size : Size) → bytes ≡ 46 ∷ behind → 0 < length behind → get_or behind 0 0 ≡ 42 → taken ≡ 64 → AllByRecursion IsFlag flags → SpellsWidth width size
    → Stops (after_width flags width) taken bytes TooManyArgs behind
precision_star_stops taken bytes [] flags width size e some first full are_flags spelled = absurd (omega arith)
precision_star_stops taken bytes (byte ∷ behind) flags width size e some first full are_flags spelled =
    let head = after_precision flags width (46 ∷ []) in
    let on : goes_on head 42 ≡ true = on_precision_star head 42 refl in
    let takes : takes_argument head 42 ≡ true = or_left (takes_width_star head 42 || takes_precision_star head 42) (is_conversion 42) (or_right (takes_width_star head 42) (takes_precision_star head 42) refl) in
    record {
      head = head;
      joined = joins flags width (46 ∷ []) bytes (byte ∷ behind) e;
      right = head_after_precision flags width (46 ∷ []) size (Given 0) are_flags spelled ([], refl, record { are_digits = tt; value = refl; limit = omega arith });
      stars = simp append-nil (stars_join width (46 ∷ []) ∙ omega arith);
      stops = rw (first, full) (star_cause head 64 on takes);
    }

pub precision_stops : (taken : ℕ) (bytes behind flags width : List ℕ) (size : Size) (cause : FormatCause) (rest : List ℕ) → BeginsTooWide behind cause rest → bytes ≡ 46 ∷ behind → AllByRecursion IsFlag flags → SpellsWidth width size
    → Stops (after_width flags width) taken bytes cause rest
precision_stops taken bytes behind flags width size cause rest begins e are_flags spelled =
    let digits = begins.digits in
    let head = after_precision flags width (46 ∷ digits) in
    let takes : takes_precision_digit head begins.byte ≡ true = rw (begins.digit, no_star digits begins.spelled.are_digits) refl in
    let above : nat_lt 4095 (digits_value 10 (digits ++ begins.byte ∷ [])) ≡ true = lt-ltb _ _ begins.above in
    let wide : is_too_wide head begins.byte ≡ true = or_right (takes_width_digit head begins.byte && nat_lt 4095 (digits_value 10 (width ++ begins.byte ∷ []))) _ (and_from _ _ takes above) in
    record {
      head = head;
      joined = joins flags width (46 ∷ digits) bytes rest (e ∙ ap (λ (back : List ℕ). 46 ∷ back) begins.joined);
      right = head_after_precision flags width (46 ∷ digits) size (Given begins.n) are_flags spelled (digits, refl, begins.spelled);
      stars = simp append-nil (stars_join width (46 ∷ digits) ∙ omega (arith, no_stars digits begins.spelled.are_digits));
      stops = rw (begins.rest_is, begins.cause_is) (digit_cause head taken begins.byte begins.digit (on_precision_digit head begins.byte takes) ∙ rw wide refl);
    }
