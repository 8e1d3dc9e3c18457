-- A head with one more byte, where nothing breaks.
use Rattle.std.proofs.Common.{◌≡◌, ◌≢◌, ℕ, ◌+◌, ◌<◌, ◌≤◌, Bool, true, false, not, ◌&&◌, ◌||◌, List, [], ◌∷◌, ◌++◌, length, drop, get_or, Option, Some, None, inl, inr, refl, sym, ap, ◌∙◌, arith, append_assoc, length-append}
use Rattle.std.specs.Prelude.{◌==◌, if◌then◌else◌, nat_lt, codes}
use Rattle.std.specs.Char.{is_digit}
use Rattle.std.specs.List.{count_by}
use Rattle.std.specs.Str.Parse.{digits_value}
use Rattle.std.proofs.lemmas.Bool.{and_left, and_parts, or_left, or_right, or_cases, or_parts, cases_Bool, eqb-true, ltb-true, ltb-false, true≢false, false≢true}
use Rattle.std.proofs.lemmas.List.{append-nil}
use Rattle.std.proofs.lemmas.Int.Digits.{digits_push}
use Rattle.printf_grammar.specs.declared.fault.FormatCause.{FormatCause}
use Rattle.printf_grammar.specs.declared.fault.FormatCause.TheVariants.{Float, Wide, Store, BadPercent, BadLength, Unknown, TooWide, Nul, TooManyArgs}
use Rattle.printf_grammar.specs.declared.piece.Size.{Size}
use Rattle.printf_grammar.specs.declared.piece.Size.TheVariants.{Absent, Star, Given}
use Rattle.printf_grammar.specs.declared.piece.Length.TheVariants as lengths
use Rattle.printf_grammar.specs.Spelling.{IsFlag, stands, SpellsWidth, SpellsPrecision, SpellsDigits}
use Rattle.printf_grammar.specs.Breaks.{Head, IsHead, IsModifier, head_bytes, is_empty, is_only, is_empty_head, has_star, is_float, is_wide, is_bad_length, is_too_wide, takes_argument, takes_flag, takes_width_star, takes_width_digit, takes_period, takes_precision_star, takes_precision_digit, takes_modifier, goes_on, is_conversion, cause_in, unfinished_stars}
use Rattle.printf_grammar.proofs.Runs.{all_join}
use Rattle.printf_grammar.proofs.Numbers.{digits_width, width_digits, width_some, width_first}
use Rattle.printf_grammar.proofs.Sizes.{stars_join}
use Rattle.printf_grammar.proofs.lemmas.Shortening.{head_of, plain, no_star_in, flags_end, width_end, precision_end, no_digits}

-- ---- no cause fits

if_none : (test : Bool) (cause : FormatCause) (others : Option FormatCause) → (if test then Some cause else others) ≡ None → (test ≡ false) × (others ≡ None)
if_none true cause others e = absurd (let h : (let some : Option FormatCause = Some cause in some ≡ None) = e in cc)
if_none false cause others e = (refl, e)

pub record IsFree (head : Head) (count byte : ℕ) : Type 0 where
  pub wide : is_wide head byte ≡ false
  pub bad_length : is_bad_length head byte ≡ false
  pub goes : goes_on head byte ≡ true
  pub not_wide : is_too_wide head byte ≡ false
  pub room : takes_argument head byte ≡ true → count ≢ 64

goes_where : (nul goes : Bool) → nul ≡ false → (not nul && not goes) ≡ false → goes ≡ true
goes_where nul true e known = refl
goes_where nul false e known = absurd (true≢false (rw e at known))

pub free_of : (head : Head) (count byte : ℕ) → cause_in head count byte ≡ None → IsFree head count byte
free_of head count byte e =
    let float = if_none (is_float byte) Float _ e in
    let wide = if_none (is_wide head byte) Wide _ float.1 in
    let store = if_none (byte == 110) Store _ wide.1 in
    let percent = if_none (byte == 37 && not (is_empty_head head)) BadPercent _ store.1 in
    let bad_length = if_none (is_bad_length head byte) BadLength _ percent.1 in
    let unknown = if_none (not (byte == 0) && not (goes_on head byte)) Unknown _ bad_length.1 in
    let not_wide = if_none (is_too_wide head byte) TooWide _ unknown.1 in
    let nul = if_none (byte == 0) Nul _ not_wide.1 in
    let many = if_none (takes_argument head byte && count == 64) TooManyArgs None nul.1 in
    record {
      wide = wide.0;
      bad_length = bad_length.0;
      goes = goes_where (byte == 0) (goes_on head byte) nul.0 unknown.0;
      not_wide = not_wide.0;
      room = λ takes full. true≢false (sym (rw (takes, full) refl) ∙ many.0);
    }

-- ---- a longer head

pub record Longer (head : Head) (count byte : ℕ) : Type 0 where
  pub whole : Head
  pub joined : head_bytes head ++ byte ∷ [] ≡ head_bytes whole
  pub right : IsHead whole
  pub few : (base : ℕ) → base + unfinished_stars (Some head) ≡ count → count ≤ 64 → base + unfinished_stars (Some whole) ≤ 64

pub empty_is : (bytes : List ℕ) → is_empty bytes ≡ true → bytes ≡ []
empty_is [] e = refl
empty_is (byte ∷ bytes) e = absurd (false≢true e)

only_is : (byte : ℕ) (bytes : List ℕ) → is_only byte bytes ≡ true → bytes ≡ byte ∷ []
only_is byte [] e = absurd (false≢true e)
only_is byte (first ∷ bytes) e = let parts = and_parts (first == byte) (is_empty bytes) e in rw (eqb-true first byte parts.0, empty_is bytes parts.1) refl

flag_is : (byte : ℕ) → stands byte (codes "-+ #0") ≡ true → IsFlag byte
flag_is byte e =
    elim (or_cases (45 == byte) _ e) [
      | inl h ↦ inl (sym (eqb-true 45 byte h))
      | inr e ↦ elim (or_cases (43 == byte) _ e) [
        | inl h ↦ inr (inl (sym (eqb-true 43 byte h)))
        | inr e ↦ elim (or_cases (32 == byte) _ e) [
          | inl h ↦ inr (inr (inl (sym (eqb-true 32 byte h))))
          | inr e ↦ elim (or_cases (35 == byte) _ e) [
            | inl h ↦ inr (inr (inr (inl (sym (eqb-true 35 byte h)))))
            | inr e ↦ elim (or_cases (48 == byte) false e) [
              | inl h ↦ inr (inr (inr (inr (sym (eqb-true 48 byte h)))))
              | inr e ↦ absurd (false≢true e)
            ]
          ]
        ]
      ]
    ]

longer_flag : (flags width precision modifier : List ℕ) (count byte : ℕ) → IsHead (head_of flags width precision modifier) → takes_flag (head_of flags width precision modifier) byte ≡ true → Longer (head_of flags width precision modifier) count byte
longer_flag flags width precision modifier count byte right e =
    let last = and_parts (stands byte (codes "-+ #0") && is_empty width && is_empty precision) (is_empty modifier) e in
    let middle = and_parts (stands byte (codes "-+ #0") && is_empty width) (is_empty precision) last.0 in
    let first = and_parts (stands byte (codes "-+ #0")) (is_empty width) middle.0 in
    rw (empty_is width first.1, empty_is precision middle.1, empty_is modifier last.1) (record {
      whole = head_of (flags ++ byte ∷ []) [] [] [];
      joined = ap (λ (rest : List ℕ). 37 ∷ rest) (sym (flags_end flags (byte ∷ [])));
      right = record { flags = all_join IsFlag flags (byte ∷ []) right.flags (flag_is byte first.0, tt); width = (Absent, refl); precision = (Absent, refl); modifier = plain };
      few = λ base counted few. omega arith;
    })

-- a `*` of the width
longer_width_star : (flags width precision modifier : List ℕ) (count byte : ℕ) → IsHead (head_of flags width precision modifier) → takes_width_star (head_of flags width precision modifier) byte ≡ true → count ≢ 64 → Longer (head_of flags width precision modifier) count byte
longer_width_star flags width precision modifier count byte right e room =
    let last = and_parts (byte == 42 && is_empty width && is_empty precision) (is_empty modifier) e in
    let middle = and_parts (byte == 42 && is_empty width) (is_empty precision) last.0 in
    let first = and_parts (byte == 42) (is_empty width) middle.0 in
    rw (empty_is width first.1, empty_is precision middle.1, empty_is modifier last.1, eqb-true byte 42 first.0) (record {
      whole = head_of flags (42 ∷ []) [] [];
      joined = ap (λ (rest : List ℕ). 37 ∷ rest) (sym (width_end flags [] (42 ∷ [])));
      right = record { flags = right.flags; width = (Star, refl); precision = (Absent, refl); modifier = plain };
      few = λ base counted few. omega arith;
    })

more_digits : (digits : List ℕ) (byte n : ℕ) → SpellsDigits digits n → is_digit byte 10 ≡ true → nat_lt 4095 (digits_value 10 (digits ++ byte ∷ [])) ≡ false → SpellsDigits (digits ++ byte ∷ []) (digits_value 10 (digits ++ byte ∷ []))
more_digits digits byte n spelled digit within = record { are_digits = digits_push 10 digits byte spelled.are_digits (ltb-true _ _ digit); value = refl; limit = ltb-false _ _ within }

longer_width : (flags width precision modifier : List ℕ) (count byte : ℕ) → IsHead (head_of flags width precision modifier) → takes_width_digit (head_of flags width precision modifier) byte ≡ true → takes_flag (head_of flags width precision modifier) byte ≡ false
    → is_too_wide (head_of flags width precision modifier) byte ≡ false → Longer (head_of flags width precision modifier) count byte
longer_width flags width precision modifier count byte right e no_flag not_wide =
    let last = and_parts (is_digit byte 10 && not (has_star width) && is_empty precision) (is_empty modifier) e in
    let middle = and_parts (is_digit byte 10 && not (has_star width)) (is_empty precision) last.0 in
    let first = and_parts (is_digit byte 10) (not (has_star width)) middle.0 in
    let head = head_of flags width precision modifier in
    let wide = (or_parts (takes_width_digit head byte && nat_lt 4095 (digits_value 10 (width ++ byte ∷ []))) (takes_precision_digit head byte && nat_lt 4095 (digits_value 10 (drop 1 precision ++ byte ∷ []))) not_wide).0 in
    let within : nat_lt 4095 (digits_value 10 (width ++ byte ∷ [])) ≡ false = rw e at wide in
    let no_precision = empty_is precision middle.1 in
    let no_modifier = empty_is modifier last.1 in
    let other : width ≡ [] → byte ≢ 48 = λ none zero. true≢false (rw (none, no_precision, no_modifier, zero) at no_flag) in
    rw (no_precision, no_modifier) (record {
      whole = head_of flags (width ++ byte ∷ []) [] [];
      joined = ap (λ (rest : List ℕ). 37 ∷ rest) (sym (width_end flags width (byte ∷ [])));
      right = record { flags = right.flags; width = (Given (digits_value 10 (width ++ byte ∷ [])), longer_size width right.width.0 right.width.1 first.0 first.1 within other); precision = (Absent, refl); modifier = plain };
      few = λ base counted few. let stars : count_by (λ b. b == 42) ((width ++ byte ∷ []) ++ []) ≡ count_by (λ b. b == 42) (width ++ []) = rw (append-nil (width ++ byte ∷ []), append-nil width) (no_star_in width byte first.0) in omega (arith, stars, counted);
    })
  where
    longer_size : (width : List ℕ) (size : Size) → SpellsWidth width size → is_digit byte 10 ≡ true → not (has_star width) ≡ true → nat_lt 4095 (digits_value 10 (width ++ byte ∷ [])) ≡ false → (width ≡ [] → byte ≢ 48) → SpellsWidth (width ++ byte ∷ []) (Given (digits_value 10 (width ++ byte ∷ [])))
    longer_size width Absent spelled digit no_star within other = rw spelled (digits_width (byte ∷ []) _ (more_digits [] byte 0 (record { are_digits = tt; value = refl; limit = omega arith }) digit (rw spelled at within)) (omega arith) (other spelled))
    longer_size width Star spelled digit no_star within other = absurd (false≢true (rw spelled at no_star))
    longer_size width (Given n) spelled digit no_star within other = digits_width (width ++ byte ∷ []) _ (more_digits width byte n (width_digits width n spelled) digit within) (omega (arith, length-append width (byte ∷ []))) (first_kept width (width_some width n spelled) (width_first width n spelled))
      where
        first_kept : (width : List ℕ) → 0 < length width → get_or width 0 0 ≢ 48 → get_or (width ++ byte ∷ []) 0 0 ≢ 48
        first_kept [] some first = absurd (omega arith)
        first_kept (x ∷ width) some first = first

-- ---- a precision

longer_period : (flags width precision modifier : List ℕ) (count byte : ℕ) → IsHead (head_of flags width precision modifier) → takes_period (head_of flags width precision modifier) byte ≡ true → Longer (head_of flags width precision modifier) count byte
longer_period flags width precision modifier count byte right e =
    let last = and_parts (byte == 46 && is_empty precision) (is_empty modifier) e in
    let first = and_parts (byte == 46) (is_empty precision) last.0 in
    rw (empty_is precision first.1, empty_is modifier last.1, eqb-true byte 46 first.0) (record {
      whole = head_of flags width (46 ∷ []) [];
      joined = ap (λ (rest : List ℕ). 37 ∷ rest) (sym (precision_end flags width [] (46 ∷ [])));
      right = record { flags = right.flags; width = right.width; precision = (Given 0, no_digits); modifier = plain };
      few = λ base counted few. omega (arith, counted, stars_join width [], stars_join width (46 ∷ []));
    })

longer_precision_star : (flags width precision modifier : List ℕ) (count byte : ℕ) → IsHead (head_of flags width precision modifier) → takes_precision_star (head_of flags width precision modifier) byte ≡ true → count ≢ 64
    → Longer (head_of flags width precision modifier) count byte
longer_precision_star flags width precision modifier count byte right e room =
    let last = and_parts (byte == 42 && is_only 46 precision) (is_empty modifier) e in
    let first = and_parts (byte == 42) (is_only 46 precision) last.0 in
    rw (only_is 46 precision first.1, empty_is modifier last.1, eqb-true byte 42 first.0) (record {
      whole = head_of flags width (46 ∷ 42 ∷ []) [];
      joined = ap (λ (rest : List ℕ). 37 ∷ rest) (sym (precision_end flags width (46 ∷ []) (42 ∷ [])));
      right = record { flags = right.flags; width = right.width; precision = (Star, refl); modifier = plain };
      few = λ base counted few. omega (arith, counted, stars_join width (46 ∷ []), stars_join width (46 ∷ 42 ∷ []));
    })

longer_precision : (flags width precision modifier : List ℕ) (count byte : ℕ) → IsHead (head_of flags width precision modifier) → takes_precision_digit (head_of flags width precision modifier) byte ≡ true
    → is_too_wide (head_of flags width precision modifier) byte ≡ false → Longer (head_of flags width precision modifier) count byte
longer_precision flags width precision modifier count byte right e not_wide =
    let head = head_of flags width precision modifier in
    let wide = (or_parts (takes_width_digit head byte && nat_lt 4095 (digits_value 10 (width ++ byte ∷ []))) (takes_precision_digit head byte && nat_lt 4095 (digits_value 10 (drop 1 precision ++ byte ∷ []))) not_wide).1 in
    let within : nat_lt 4095 (digits_value 10 (drop 1 precision ++ byte ∷ [])) ≡ false = rw e at wide in
    let last = and_parts (is_digit byte 10 && not (is_empty precision) && not (has_star precision)) (is_empty modifier) e in
    let middle = and_parts (is_digit byte 10 && not (is_empty precision)) (not (has_star precision)) last.0 in
    let first = and_parts (is_digit byte 10) (not (is_empty precision)) middle.0 in
    rw (empty_is modifier last.1) (record {
      whole = head_of flags width (precision ++ byte ∷ []) [];
      joined = ap (λ (rest : List ℕ). 37 ∷ rest) (sym (precision_end flags width precision (byte ∷ [])));
      right = record { flags = right.flags; width = right.width; precision = longer_size precision right.precision.0 right.precision.1 first.0 first.1 middle.1 within; modifier = plain };
      few = λ base counted few. omega (arith, counted, stars_join width precision, stars_join width (precision ++ byte ∷ []), no_star_in precision byte first.0);
    })
  where
    longer_size : (precision : List ℕ) (size : Size) → SpellsPrecision precision size → is_digit byte 10 ≡ true → not (is_empty precision) ≡ true → not (has_star precision) ≡ true → nat_lt 4095 (digits_value 10 (drop 1 precision ++ byte ∷ [])) ≡ false
        → (most : Size) × SpellsPrecision (precision ++ byte ∷ []) most
    longer_size precision Absent spelled digit some no_star within = absurd (false≢true (rw spelled at some))
    longer_size precision Star spelled digit some no_star within = absurd (false≢true (rw spelled at no_star))
    longer_size precision (Given n) spelled digit some no_star within =
        let digits = spelled.0 in
        (Given (digits_value 10 (digits ++ byte ∷ [])), (digits ++ byte ∷ [], rw spelled.1 refl, more_digits digits byte n spelled.2 digit (rw spelled.1 at within)))

-- ---- a length

with_length : (flags width precision modifier : List ℕ) (count byte : ℕ) (longer : List ℕ) → IsHead (head_of flags width precision modifier) → modifier ++ byte ∷ [] ≡ longer → IsModifier longer → Longer (head_of flags width precision modifier) count byte
with_length flags width precision modifier count byte longer right e spelled = record {
  whole = head_of flags width precision longer;
  joined = ap (λ (rest : List ℕ). 37 ∷ rest) (append_assoc ((flags ++ width) ++ precision) modifier (byte ∷ []) ∙ ap (λ (rest : List ℕ). ((flags ++ width) ++ precision) ++ rest) e);
  right = record { flags = right.flags; width = right.width; precision = right.precision; modifier = spelled };
  few = λ base counted few. omega (arith, counted);
}

first_length : (byte : ℕ) → stands byte (codes "hljztL") ≡ true → IsModifier (byte ∷ [])
first_length byte e =
    elim (or_cases (104 == byte) _ e) [
      | inl h ↦ inl (lengths.H, ap (λ (b : ℕ). b ∷ []) (sym (eqb-true 104 byte h)))
      | inr e ↦ elim (or_cases (108 == byte) _ e) [
        | inl h ↦ inl (lengths.L, ap (λ (b : ℕ). b ∷ []) (sym (eqb-true 108 byte h)))
        | inr e ↦ elim (or_cases (106 == byte) _ e) [
          | inl h ↦ inl (lengths.J, ap (λ (b : ℕ). b ∷ []) (sym (eqb-true 106 byte h)))
          | inr e ↦ elim (or_cases (122 == byte) _ e) [
            | inl h ↦ inl (lengths.Z, ap (λ (b : ℕ). b ∷ []) (sym (eqb-true 122 byte h)))
            | inr e ↦ elim (or_cases (116 == byte) _ e) [
              | inl h ↦ inl (lengths.T, ap (λ (b : ℕ). b ∷ []) (sym (eqb-true 116 byte h)))
              | inr e ↦ elim (or_cases (76 == byte) false e) [
                | inl h ↦ inr (ap (λ (b : ℕ). b ∷ []) (sym (eqb-true 76 byte h)))
                | inr e ↦ absurd (false≢true e)
              ]
            ]
          ]
        ]
      ]
    ]

longer_modifier : (flags width precision modifier : List ℕ) (count byte : ℕ) → IsHead (head_of flags width precision modifier) → takes_modifier (head_of flags width precision modifier) byte ≡ true → Longer (head_of flags width precision modifier) count byte
longer_modifier flags width precision modifier count byte right e =
    let first = stands byte (codes "hljztL") && is_empty modifier in
    let second_h = byte == 104 && is_only 104 modifier in
    let second_l = byte == 108 && is_only 108 modifier in
    elim (or_cases (first || second_h) second_l e) [
      | inl h ↦ elim (or_cases first second_h h) [
        | inl h ↦
            let parts = and_parts (stands byte (codes "hljztL")) (is_empty modifier) h in
            with_length flags width precision modifier count byte (byte ∷ []) right (rw (empty_is modifier parts.1) refl) (first_length byte parts.0)
        | inr h ↦
            let parts = and_parts (byte == 104) (is_only 104 modifier) h in
            with_length flags width precision modifier count byte (104 ∷ 104 ∷ []) right (rw (only_is 104 modifier parts.1, eqb-true byte 104 parts.0) refl) (inl (lengths.HH, refl))
      ]
      | inr h ↦
          let parts = and_parts (byte == 108) (is_only 108 modifier) h in
          with_length flags width precision modifier count byte (108 ∷ 108 ∷ []) right (rw (only_is 108 modifier parts.1, eqb-true byte 108 parts.0) refl) (inl (lengths.LL, refl))
    ]

-- ---- any byte that goes on

pub longer : (head : Head) (count byte : ℕ) → IsHead head → IsFree head count byte → is_conversion byte ≡ false → (byte == 37) ≡ false → Longer head count byte
longer head count byte right free no_conversion no_percent =
    let f = head.flags in
    let w = head.width in
    let p = head.precision in
    let m = head.modifier in
    elim (cases_Bool (takes_flag head byte)) [
      | inl flag ↦ longer_flag f w p m count byte right flag
      | inr no_flag ↦ elim (or_cases (takes_flag head byte || takes_width_star head byte || takes_width_digit head byte || takes_period head byte || takes_precision_star head byte || takes_precision_digit head byte) (takes_modifier head byte) goes) [
        | inr h ↦ longer_modifier f w p m count byte right h
        | inl h ↦ elim (or_cases (takes_flag head byte || takes_width_star head byte || takes_width_digit head byte || takes_period head byte || takes_precision_star head byte) (takes_precision_digit head byte) h) [
          | inr h ↦ longer_precision f w p m count byte right h free.not_wide
          | inl h ↦ elim (or_cases (takes_flag head byte || takes_width_star head byte || takes_width_digit head byte || takes_period head byte) (takes_precision_star head byte) h) [
            | inr h ↦ longer_precision_star f w p m count byte right h (free.room (takes_second (takes_width_star head byte) (takes_precision_star head byte) (is_conversion byte) h))
            | inl h ↦ elim (or_cases (takes_flag head byte || takes_width_star head byte || takes_width_digit head byte) (takes_period head byte) h) [
              | inr h ↦ longer_period f w p m count byte right h
              | inl h ↦ elim (or_cases (takes_flag head byte || takes_width_star head byte) (takes_width_digit head byte) h) [
                | inr h ↦ longer_width f w p m count byte right h no_flag free.not_wide
                | inl h ↦ elim (or_cases (takes_flag head byte) (takes_width_star head byte) h) [
                  | inr h ↦ longer_width_star f w p m count byte right h (free.room (takes_first (takes_width_star head byte) (takes_precision_star head byte) (is_conversion byte) h))
                  | inl h ↦ absurd (true≢false (sym h ∙ no_flag))
                ]
              ]
            ]
          ]
        ]
      ]
    ]
  where
    takes_first : (a b c : Bool) → a ≡ true → (a || b || c) ≡ true
    takes_first a b c e = rw e refl

    takes_second : (a b c : Bool) → b ≡ true → (a || b || c) ≡ true
    takes_second a b c e = or_left _ _ (or_right _ _ e)

    without : (a b c : Bool) → (a || b || c) ≡ true → b ≡ false → c ≡ false → a ≡ true
    without true b c e b_fails c_fails = refl
    without false b c e b_fails c_fails = absurd (false≢true (rw (b_fails, c_fails) at e))

    goes : (takes_flag head byte || takes_width_star head byte || takes_width_digit head byte || takes_period head byte || takes_precision_star head byte || takes_precision_digit head byte || takes_modifier head byte) ≡ true
    goes = without _ (is_conversion byte) (byte == 37 && is_empty_head head) free.goes no_conversion (and_left _ _ no_percent)
