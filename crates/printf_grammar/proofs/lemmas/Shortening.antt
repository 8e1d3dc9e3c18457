-- A head without its last byte: it is a head too, and goes on with that byte.
use Rattle.std.proofs.Common.{◌≡◌, ◌≢◌, ◌⊎◌, ℕ, ◌+◌, ◌<◌, ◌≤◌, true, false, not, ◌&&◌, ◌||◌, List, [], ◌∷◌, ◌++◌, length, get_or, Some, None, inl, inr, refl, sym, ap, subst, ◌∙◌, arith, append_assoc, length-append}
use Rattle.std.specs.Prelude.{◌==◌, if◌then◌else◌, nat_lt, codes}
use Rattle.std.specs.Char.{is_digit, digit_value}
use Rattle.std.specs.List.{AllByRecursion, count_by}
use Rattle.std.specs.Str.Parse.{AllDigits, digits_value}
use Rattle.std.proofs.lemmas.Bool.{and_left, and_right, or_from, or_left, or_right, lt-ltb, ltb-true, ne_eqb, false_from_ne_true, true≢false}
use Rattle.std.proofs.lemmas.List.{append-nil}
use Rattle.std.proofs.lemmas.Int.Digits.{digits_value_push}
use Rattle.printf_grammar.specs.declared.piece.Size.{Size}
use Rattle.printf_grammar.specs.declared.piece.Size.TheVariants.{Absent, Star, Given}
use Rattle.printf_grammar.specs.declared.piece.Length.{Length}
use Rattle.printf_grammar.specs.declared.piece.Length.TheVariants as lengths
use Rattle.printf_grammar.specs.Spelling.{IsFlag, stands, SpellsWidth, SpellsPrecision, SpellsDigits, length_bytes}
use Rattle.printf_grammar.specs.Breaks.{Head, IsHead, IsModifier, head_bytes, is_empty, is_empty_head, has_star, is_too_wide, takes_argument, takes_flag, takes_width_star, takes_width_digit, takes_period, takes_precision_star, takes_precision_digit, is_conversion, cause_in, unfinished_stars}
use Rattle.printf_grammar.proofs.Runs.{all_front, all_back}
use Rattle.printf_grammar.proofs.Behind.{on_width_digit, on_precision_star, on_precision_digit, digit_cause, star_cause, digit_fails}
use Rattle.printf_grammar.proofs.Numbers.{digits_width, width_digits, width_first, no_star}
use Rattle.printf_grammar.proofs.Sizes.{stars_join}

-- ---- lists by their last element

pub snoc_cases : {X : Type 0} (xs : List X) → (xs ≡ []) ⊎ ((front : List X) × (last : X) × (xs ≡ front ++ last ∷ []))
snoc_cases {X = X} [] = inl refl
snoc_cases {X = X} (x ∷ xs) =
    elim (snoc_cases xs) [
      | inl none ↦ inr ([], x, ap (λ (rest : List X). x ∷ rest) none)
      | inr some ↦ inr (x ∷ some.0, some.1, ap (λ (rest : List X). x ∷ rest) some.2)
    ]

pub cons_parts : {X : Type 0} (x y : X) (xs ys : List X) → x ∷ xs ≡ y ∷ ys → (x ≡ y) × (xs ≡ ys)
cons_parts x y xs ys e = (cc, cc)

pub snoc_parts : {X : Type 0} (xs ys : List X) (x y : X) → xs ++ x ∷ [] ≡ ys ++ y ∷ [] → (xs ≡ ys) × (x ≡ y)
snoc_parts [] [] x y e = (refl, (cons_parts x y [] [] e).0)
snoc_parts [] (b ∷ ys) x y e = absurd (let same = ap length e in omega (arith, same, length-append ys (y ∷ [])))
snoc_parts (a ∷ xs) [] x y e = absurd (let same = ap length e in omega (arith, same, length-append xs (x ∷ [])))
snoc_parts (a ∷ xs) (b ∷ ys) x y e =
    let parts = cons_parts a b _ _ e in
    let rest = snoc_parts xs ys x y parts.1 in
    (rw (parts.0, rest.0) refl, rest.1)

-- ---- one more byte of a head

abbrev pub head_of : List ℕ → List ℕ → List ℕ → List ℕ → Head
head_of flags width precision modifier = record { flags = flags; width = width; precision = precision; modifier = modifier }

-- the head with the byte at the end of the part that takes it
abbrev pub extend : Head → ℕ → Head
extend head byte =
    if takes_flag head byte then head_of (head.flags ++ byte ∷ []) head.width head.precision head.modifier
    else (if takes_width_star head byte || takes_width_digit head byte then head_of head.flags (head.width ++ byte ∷ []) head.precision head.modifier
    else (if takes_period head byte || takes_precision_star head byte || takes_precision_digit head byte then head_of head.flags head.width (head.precision ++ byte ∷ []) head.modifier
    else head_of head.flags head.width head.precision (head.modifier ++ byte ∷ [])))

-- the byte behind the front of a head goes on with it
pub record GoesOn (front : Head) (last : ℕ) (head : Head) : Type 0 where
  pub right : IsHead front
  pub extends : extend front last ≡ head
  pub no_conversion : is_conversion last ≡ false
  pub no_percent : (last == 37) ≡ false
  pub free : (base : ℕ) → base + unfinished_stars (Some head) ≤ 64 → cause_in front (base + unfinished_stars (Some front)) last ≡ None

pub record Shorter (head : Head) : Type 0 where
  pub front : Head
  pub last : ℕ
  pub joined : head_bytes head ≡ head_bytes front ++ last ∷ []
  pub on : GoesOn front last head
  pub stars : unfinished_stars (Some front) ≤ unfinished_stars (Some head)

-- ---- a length

by_modifier : (flags width precision front : List ℕ) (last : ℕ) → GoesOn (head_of flags width precision front) last (head_of flags width precision (front ++ last ∷ [])) → Shorter (head_of flags width precision (front ++ last ∷ []))
by_modifier flags width precision front last on = record {
  front = head_of flags width precision front;
  last = last;
  joined = ap (λ (rest : List ℕ). 37 ∷ rest) (sym (append_assoc ((flags ++ width) ++ precision) front (last ∷ [])));
  on = on;
  stars = omega arith;
}

with_modifier : (flags width precision modifier : List ℕ) (front : List ℕ) → IsHead (head_of flags width precision modifier) → IsModifier front → IsHead (head_of flags width precision front)
with_modifier flags width precision modifier front right spelled = record { flags = right.flags; width = right.width; precision = right.precision; modifier = spelled }

pub plain : IsModifier []
plain = inl (lengths.Plain, refl)

shorter_modifier : (flags width precision modifier : List ℕ) → IsHead (head_of flags width precision modifier) → (length : Length) → modifier ≡ length_bytes length → (modifier ≡ [] → ⊥) → Shorter (head_of flags width precision modifier)
shorter_modifier flags width precision modifier right lengths.Plain e some = absurd (some e)
shorter_modifier flags width precision modifier right lengths.HH e some = rw e (by_modifier flags width precision (104 ∷ []) 104 (record { right = with_modifier flags width precision modifier (104 ∷ []) right (inl (lengths.H, refl)); extends = refl; no_conversion = refl; no_percent = refl; free = λ base few. refl }))
shorter_modifier flags width precision modifier right lengths.H e some = rw e (by_modifier flags width precision [] 104 (record { right = with_modifier flags width precision modifier [] right plain; extends = refl; no_conversion = refl; no_percent = refl; free = λ base few. refl }))
shorter_modifier flags width precision modifier right lengths.L e some = rw e (by_modifier flags width precision [] 108 (record { right = with_modifier flags width precision modifier [] right plain; extends = refl; no_conversion = refl; no_percent = refl; free = λ base few. refl }))
shorter_modifier flags width precision modifier right lengths.LL e some = rw e (by_modifier flags width precision (108 ∷ []) 108 (record { right = with_modifier flags width precision modifier (108 ∷ []) right (inl (lengths.L, refl)); extends = refl; no_conversion = refl; no_percent = refl; free = λ base few. refl }))
shorter_modifier flags width precision modifier right lengths.J e some = rw e (by_modifier flags width precision [] 106 (record { right = with_modifier flags width precision modifier [] right plain; extends = refl; no_conversion = refl; no_percent = refl; free = λ base few. refl }))
shorter_modifier flags width precision modifier right lengths.Z e some = rw e (by_modifier flags width precision [] 122 (record { right = with_modifier flags width precision modifier [] right plain; extends = refl; no_conversion = refl; no_percent = refl; free = λ base few. refl }))
shorter_modifier flags width precision modifier right lengths.T e some = rw e (by_modifier flags width precision [] 116 (record { right = with_modifier flags width precision modifier [] right plain; extends = refl; no_conversion = refl; no_percent = refl; free = λ base few. refl }))

shorter_L : (flags width precision modifier : List ℕ) → IsHead (head_of flags width precision modifier) → modifier ≡ 76 ∷ [] → Shorter (head_of flags width precision modifier)
shorter_L flags width precision modifier right e = rw e (by_modifier flags width precision [] 76 (record { right = with_modifier flags width precision modifier [] right plain; extends = refl; no_conversion = refl; no_percent = refl; free = λ base few. refl }))

-- ---- flags

pub flags_end : (front back : List ℕ) → (((front ++ back) ++ []) ++ []) ++ [] ≡ (((front ++ []) ++ []) ++ []) ++ back
flags_end front back = simp append-nil

by_flags : (front : List ℕ) (last : ℕ) → AllByRecursion IsFlag (front ++ last ∷ []) → IsFlag last → Shorter (head_of (front ++ last ∷ []) [] [] [])
by_flags front last all flag = record {
  front = head_of front [] [] [];
  last = last;
  joined = ap (λ (rest : List ℕ). 37 ∷ rest) (flags_end front (last ∷ []));
  on = elim flag [
    | inl e ↦ rw e (record { right = right; extends = refl; no_conversion = refl; no_percent = refl; free = λ base few. refl })
    | inr (inl e) ↦ rw e (record { right = right; extends = refl; no_conversion = refl; no_percent = refl; free = λ base few. refl })
    | inr (inr (inl e)) ↦ rw e (record { right = right; extends = refl; no_conversion = refl; no_percent = refl; free = λ base few. refl })
    | inr (inr (inr (inl e))) ↦ rw e (record { right = right; extends = refl; no_conversion = refl; no_percent = refl; free = λ base few. refl })
    | inr (inr (inr (inr e))) ↦ rw e (record { right = right; extends = refl; no_conversion = refl; no_percent = refl; free = λ base few. refl })
  ];
  stars = omega arith;
}
  where
    right : IsHead (head_of front [] [] [])
    right = record { flags = all_front IsFlag front (last ∷ []) all; width = (Absent, refl); precision = (Absent, refl); modifier = plain }

-- ---- a digit

-- the digits without the last one
record Digits (digits : List ℕ) (byte n : ℕ) : Type 0 where
  value : ℕ
  spelled : SpellsDigits digits value
  digit : is_digit byte 10 ≡ true
  within : nat_lt 4095 (digits_value 10 (digits ++ byte ∷ [])) ≡ false

digits_front : (digits : List ℕ) (byte : ℕ) → AllDigits 10 (digits ++ byte ∷ []) → AllDigits 10 digits × (digit_value byte < 10)
digits_front [] byte all = (tt, all.0)
digits_front (first ∷ digits) byte all = let rest = digits_front digits byte all.1 in ((all.0, rest.0), rest.1)

fewer_digits : (digits : List ℕ) (byte n : ℕ) → SpellsDigits (digits ++ byte ∷ []) n → Digits digits byte n
fewer_digits digits byte n spelled =
    let all = digits_front digits byte spelled.are_digits in
    let value = digits_value_push 10 digits byte in
    record {
      value = digits_value 10 digits;
      spelled = record { are_digits = all.0; value = refl; limit = omega (arith, value, spelled.value, spelled.limit) };
      digit = lt-ltb _ _ all.1;
      within = false_from_ne_true _ (λ above. let much = ltb-true _ _ above in omega (arith, spelled.value, spelled.limit));
    }

digit_no_flag : (byte : ℕ) → is_digit byte 10 ≡ true → byte ≢ 48 → stands byte (codes "-+ #0") ≡ false
digit_no_flag byte digit other =
    let fails : (not (byte == 48) && stands byte (codes "-+ #0")) ≡ false = digit_fails (λ k. not (k == 48) && stands k (codes "-+ #0")) byte digit refl in
    rw (ne_eqb byte 48 other) at fails

pub no_star_in : (digits : List ℕ) (byte : ℕ) → is_digit byte 10 ≡ true → count_by (λ b. b == 42) (digits ++ byte ∷ []) ≡ count_by (λ b. b == 42) digits
no_star_in digits byte digit = stars_join digits (byte ∷ []) ∙ rw (digit_fails (λ k. k == 42) byte digit refl) (omega arith)

-- ---- a width

pub width_end : (flags front back : List ℕ) → (((flags ++ (front ++ back)) ++ []) ++ []) ≡ (((flags ++ front) ++ []) ++ []) ++ back
width_end flags front back = simp (append-nil, append_assoc)

width_star : (flags : List ℕ) → AllByRecursion IsFlag flags → Shorter (head_of flags (42 ∷ []) [] [])
width_star flags are_flags = record {
  front = head_of flags [] [] [];
  last = 42;
  joined = ap (λ (rest : List ℕ). 37 ∷ rest) (width_end flags [] (42 ∷ []));
  on = record {
    right = record { flags = are_flags; width = (Absent, refl); precision = (Absent, refl); modifier = plain };
    extends = refl;
    no_conversion = refl;
    no_percent = refl;
    free = λ base few. star_cause (head_of flags [] [] []) _ refl refl ∙ rw (ne_eqb (base + 0) 64 (λ e. omega arith)) refl;
  };
  stars = omega arith;
}

width_digit : (flags digits : List ℕ) (byte n : ℕ) → AllByRecursion IsFlag flags → SpellsWidth (digits ++ byte ∷ []) (Given n) → Shorter (head_of flags (digits ++ byte ∷ []) [] [])
width_digit flags digits byte n are_flags sized =
    let less = fewer_digits digits byte n (width_digits _ n sized) in
    let front = head_of flags digits [] [] in
    let takes : takes_width_digit front byte ≡ true = rw (less.digit, no_star digits less.spelled.are_digits) refl in
    let first = width_first _ n sized in
    let no_flag = no_flag_there digits first less.digit in
    let width : (takes_width_star front byte || takes_width_digit front byte) ≡ true = or_right (takes_width_star front byte) _ takes in
    let not_wide : is_too_wide front byte ≡ false = or_from _ _ (and_right (takes_width_digit front byte) _ less.within) (and_left (is_digit byte 10 && false && not (has_star []) && true) _ (no_precision byte)) in
    record {
      front = front;
      last = byte;
      joined = ap (λ (rest : List ℕ). 37 ∷ rest) (width_end flags digits (byte ∷ []));
      on = record {
        right = record { flags = are_flags; width = shorter_width digits less.value less.spelled first; precision = (Absent, refl); modifier = plain };
        extends = rw (no_flag, width) refl;
        no_conversion = digit_fails is_conversion byte less.digit refl;
        no_percent = digit_fails (λ k. k == 37) byte less.digit refl;
        free = λ base few. digit_cause front _ byte less.digit (on_width_digit front byte takes) ∙ rw not_wide refl;
      };
      stars = rw (append-nil digits, append-nil (digits ++ byte ∷ [])) (omega (arith, no_star_in digits byte less.digit));
    }
  where
    no_flag_there : (digits : List ℕ) → get_or (digits ++ byte ∷ []) 0 0 ≢ 48 → is_digit byte 10 ≡ true → takes_flag (head_of flags digits [] []) byte ≡ false
    no_flag_there [] first digit = rw (digit_no_flag byte digit first) refl
    no_flag_there (x ∷ digits) first digit = and_left _ true (and_left _ true (and_right (stands byte (codes "-+ #0")) false refl))

    no_precision : (byte : ℕ) → (is_digit byte 10 && false && not (has_star []) && true) ≡ false
    no_precision byte = and_left _ true (and_left _ true (and_right (is_digit byte 10) false refl))

    shorter_width : (digits : List ℕ) (value : ℕ) → SpellsDigits digits value → get_or (digits ++ byte ∷ []) 0 0 ≢ 48 → (size : Size) × SpellsWidth digits size
    shorter_width [] value spelled first = (Absent, refl)
    shorter_width (x ∷ digits) value spelled first = (Given value, digits_width (x ∷ digits) value spelled (omega arith) first)

-- ---- a precision

pub precision_end : (flags width front back : List ℕ) → (((flags ++ width) ++ (front ++ back)) ++ []) ≡ (((flags ++ width) ++ front) ++ []) ++ back
precision_end flags width front back = simp (append-nil, append_assoc)

precision_head : (flags width precision : List ℕ) (size : Size) → IsHead (head_of flags width [] []) → SpellsPrecision precision size → IsHead (head_of flags width precision [])
precision_head flags width precision size right precise = record { flags = right.flags; width = right.width; precision = (size, precise); modifier = plain }

pub no_digits : SpellsPrecision (46 ∷ []) (Given 0)
no_digits = ([], refl, record { are_digits = tt; value = refl; limit = omega arith })

precision_period : (flags width : List ℕ) → IsHead (head_of flags width [] []) → Shorter (head_of flags width (46 ∷ []) [])
precision_period flags width right = record {
  front = head_of flags width [] [];
  last = 46;
  joined = ap (λ (rest : List ℕ). 37 ∷ rest) (precision_end flags width [] (46 ∷ []));
  on = record { right = right; extends = refl; no_conversion = refl; no_percent = refl; free = λ base few. refl };
  stars = rw (stars_join width [], stars_join width (46 ∷ [])) (omega arith);
}

precision_star : (flags width : List ℕ) → IsHead (head_of flags width [] []) → Shorter (head_of flags width (46 ∷ 42 ∷ []) [])
precision_star flags width right =
    let front = head_of flags width (46 ∷ []) [] in
    let no_width : (takes_width_star front 42 || takes_width_digit front 42) ≡ false = or_from _ false (and_left _ true (and_right (is_empty width) false refl)) refl in
    let takes : takes_argument front 42 ≡ true = or_left (takes_width_star front 42 || takes_precision_star front 42) (is_conversion 42) (or_right (takes_width_star front 42) (takes_precision_star front 42) refl) in
    record {
      front = front;
      last = 42;
      joined = ap (λ (rest : List ℕ). 37 ∷ rest) (precision_end flags width (46 ∷ []) (42 ∷ []));
      on = record {
        right = precision_head flags width (46 ∷ []) (Given 0) right no_digits;
        extends = rw no_width refl;
        no_conversion = refl;
        no_percent = refl;
        free = λ base few. star_cause front _ (on_precision_star front 42 refl) takes ∙ rw (ne_eqb (base + unfinished_stars (Some front)) 64 (λ e. omega (arith, stars_join width (46 ∷ []), stars_join width (46 ∷ 42 ∷ [])))) refl;
      };
      stars = rw (stars_join width (46 ∷ []), stars_join width (46 ∷ 42 ∷ [])) (omega arith);
    }

precision_digit : (flags width digits : List ℕ) (byte n : ℕ) → IsHead (head_of flags width [] []) → SpellsDigits (digits ++ byte ∷ []) n → Shorter (head_of flags width (46 ∷ (digits ++ byte ∷ [])) [])
precision_digit flags width digits byte n right spelled =
    let less = fewer_digits digits byte n spelled in
    let front = head_of flags width (46 ∷ digits) [] in
    let takes : takes_precision_digit front byte ≡ true = rw (less.digit, no_star digits less.spelled.are_digits) refl in
    let no_flag : takes_flag front byte ≡ false = and_left _ true (and_right (stands byte (codes "-+ #0") && is_empty width) false refl) in
    let no_digit : takes_width_digit front byte ≡ false = and_left _ true (and_right (is_digit byte 10 && not (has_star width)) false refl) in
    let no_width : (takes_width_star front byte || takes_width_digit front byte) ≡ false = or_from (takes_width_star front byte) _ (and_left _ true (and_right (byte == 42 && is_empty width) false refl)) no_digit in
    let precise : (takes_period front byte || takes_precision_star front byte || takes_precision_digit front byte) ≡ true = or_right (takes_period front byte || takes_precision_star front byte) _ takes in
    let not_wide : is_too_wide front byte ≡ false = or_from _ _ (and_left _ (nat_lt 4095 (digits_value 10 (width ++ byte ∷ []))) no_digit) (and_right (takes_precision_digit front byte) _ less.within) in
    record {
      front = front;
      last = byte;
      joined = ap (λ (rest : List ℕ). 37 ∷ rest) (precision_end flags width (46 ∷ digits) (byte ∷ []));
      on = record {
        right = precision_head flags width (46 ∷ digits) (Given less.value) right (digits, refl, less.spelled);
        extends = rw (no_flag, no_width, precise) refl;
        no_conversion = digit_fails is_conversion byte less.digit refl;
        no_percent = digit_fails (λ k. k == 37) byte less.digit refl;
        free = λ base few. digit_cause front _ byte less.digit (on_precision_digit front byte takes) ∙ rw not_wide refl;
      };
      stars = rw (stars_join width (46 ∷ digits), stars_join width (46 ∷ (digits ++ byte ∷ []))) (omega (arith, no_star_in digits byte less.digit));
    }

-- ---- any head

shorter_flags : (flags : List ℕ) → AllByRecursion IsFlag flags → (flags ≡ [] → ⊥) → Shorter (head_of flags [] [] [])
shorter_flags flags are_flags some =
    elim (snoc_cases flags) [
      | inl none ↦ absurd (some none)
      | inr parts ↦
          let all : AllByRecursion IsFlag (parts.0 ++ parts.1 ∷ []) = rw (sym parts.2) are_flags in
          rw parts.2 (by_flags parts.0 parts.1 all (all_back IsFlag parts.0 (parts.1 ∷ []) all).0)
    ]

shorter_width : (flags width : List ℕ) (size : Size) → AllByRecursion IsFlag flags → SpellsWidth width size → (width ≡ [] → ⊥) → Shorter (head_of flags width [] [])
shorter_width flags width Absent are_flags sized some = absurd (some sized)
shorter_width flags width Star are_flags sized some = rw sized (width_star flags are_flags)
shorter_width flags width (Given n) are_flags sized some =
    elim (snoc_cases width) [
      | inl none ↦ absurd (some none)
      | inr parts ↦ rw parts.2 (width_digit flags parts.0 parts.1 n are_flags (subst (λ (bytes : List ℕ). SpellsWidth bytes (Given n)) parts.2 sized))
    ]

shorter_precision : (flags width precision : List ℕ) (size : Size) → IsHead (head_of flags width [] []) → SpellsPrecision precision size → (precision ≡ [] → ⊥) → Shorter (head_of flags width precision [])
shorter_precision flags width precision Absent right precise some = absurd (some precise)
shorter_precision flags width precision Star right precise some = rw precise (precision_star flags width right)
shorter_precision flags width precision (Given n) right precise some =
    elim (snoc_cases precise.0) [
      | inl none ↦ rw (precise.1, none) (precision_period flags width right)
      | inr parts ↦ rw (precise.1, parts.2) (precision_digit flags width parts.0 parts.1 n right (subst (λ (bytes : List ℕ). SpellsDigits bytes n) parts.2 precise.2))
    ]

-- a head with a part is one byte longer than another
pub shorter : (flags width precision modifier : List ℕ) → IsHead (head_of flags width precision modifier) → is_empty_head (head_of flags width precision modifier) ≡ false → Shorter (head_of flags width precision modifier)
shorter flags width precision (x ∷ modifier) right some =
    elim right.modifier [
      | inl known ↦ shorter_modifier flags width precision (x ∷ modifier) right known.0 known.1 (λ none. absurd (let h = ap length none in omega arith))
      | inr l ↦ shorter_L flags width precision (x ∷ modifier) right l
    ]
shorter flags width (x ∷ precision) [] right some = shorter_precision flags width (x ∷ precision) right.precision.0 (record { flags = right.flags; width = right.width; precision = (Absent, refl); modifier = plain }) right.precision.1 (λ none. absurd (let h = ap length none in omega arith))
shorter flags (x ∷ width) [] [] right some = shorter_width flags (x ∷ width) right.width.0 right.flags right.width.1 (λ none. absurd (let h = ap length none in omega arith))
shorter (x ∷ flags) [] [] [] right some = shorter_flags (x ∷ flags) right.flags (λ none. absurd (let h = ap length none in omega arith))
shorter [] [] [] [] right some = absurd (true≢false some)
