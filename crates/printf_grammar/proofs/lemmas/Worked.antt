-- Worked formats: their pieces, and where bytes break.
use Rattle.std.proofs.Common.{◌≡◌, ◌≢◌, ℕ, zero, suc, ◌+◌, ◌<◌, ◌≤◌, lit<, lit≤, true, List, [], ◌∷◌, ◌++◌, length, replicate, Some, None, refl, sym, inl, inr, arith}
use Rattle.std.proofs.lemmas.List.{append-nil, length-replicate}
use Rattle.std.specs.Prelude.{slice_get, codes}
use Rattle.std.specs.Fmt.{digits}
use Rattle.std.specs.List.{AllByRecursion}
use Rattle.printf_grammar.specs.declared.piece.Piece.TheVariants.{Literal}
use Rattle.printf_grammar.specs.declared.piece.Size.{Size}
use Rattle.printf_grammar.specs.declared.piece.Size.TheVariants.{Absent, Star, Given}
use Rattle.printf_grammar.specs.declared.piece.Length.TheVariants as lengths
use Rattle.printf_grammar.specs.declared.fault.FormatCause.{FormatCause}
use Rattle.printf_grammar.specs.declared.fault.FormatCause.TheVariants.{Float, Wide, Store, BadPercent, BadLength, Unknown, TooWide, Ends, Nul, TooManyArgs, Long}
use Rattle.printf_grammar.specs.Spelling.{AreApart, SpelledFrom, IsFlag, IsLiteralByte, SpellsWidth, SpellsField, SpellsLiteral, Spells}
use Rattle.printf_grammar.specs.Narrow.{plain_d}
use Rattle.printf_grammar.specs.Types.{IsText}
use Rattle.printf_grammar.specs.Breaks.{Head, head_bytes, IsModifier, IsHead, cause_at, unfinished_stars, BreaksAt, FormatBreak}
use Rattle.printf_grammar.proofs.lemmas.NarrowLaws.{plain_d_spelled}
use Rattle.printf_grammar.specs.Rows.{padded_pieces, starred_pieces, widest_pieces, plain_ds, plain_fields}

-- ---- pieces

five : SpellsWidth (codes "5") (Given 5)
unfolding digits
five = (lit< tt, lit≤ tt, refl)

bar : (at : ℕ) (next : ℕ) → next ≡ at + 1 → SpellsLiteral at (codes "|") at next
bar at next e = record { start_is = refl; end_is = e; nonempty = lit< tt; literal = ((λ h. cc, λ h. cc), tt) }

pub field_5d : SpellsField (codes "%5d") (record plain_d { width = Given 5 })
field_5d = record {
  flags = [];
  width = codes "5";
  precision = [];
  whole = refl;
  flags_spelled = record { flags = tt; minus = refl; plus = refl; space = refl; sharp = refl; zero = refl };
  width_spelled = five;
  precision_spelled = refl;
  takes_length = tt;
}

field_left_5d : SpellsField (codes "%-5d") (record plain_d { minus = true; width = Given 5 })
field_left_5d = record {
  flags = codes "-";
  width = codes "5";
  precision = [];
  whole = refl;
  flags_spelled = record { flags = (inl refl, tt); minus = refl; plus = refl; space = refl; sharp = refl; zero = refl };
  width_spelled = five;
  precision_spelled = refl;
  takes_length = tt;
}

field_05d : SpellsField (codes "%05d") (record plain_d { zero = true; width = Given 5 })
field_05d = record {
  flags = codes "0";
  width = codes "5";
  precision = [];
  whole = refl;
  flags_spelled = record { flags = (inr (inr (inr (inr refl))), tt); minus = refl; plus = refl; space = refl; sharp = refl; zero = refl };
  width_spelled = five;
  precision_spelled = refl;
  takes_length = tt;
}

pub padded : Spells (codes "%5d|%-5d|%05d") padded_pieces
padded = record {
  short = lit≤ tt;
  few = lit≤ tt;
  apart = (tt, (tt, tt));
  spelled = (codes "%5d", codes "|%-5d|%05d", refl, field_5d, (codes "|", codes "%-5d|%05d", refl, bar 3 4 refl, (codes "%-5d", codes "|%05d", refl, field_left_5d, (codes "|", codes "%05d", refl, bar 8 9 refl, (codes "%05d", [], refl, field_05d, refl)))));
}

pub starred : Spells (codes "%*.*hhx%.s%%") starred_pieces
starred = record {
  short = lit≤ tt;
  few = lit≤ tt;
  apart = tt;
  spelled = (
    codes "%*.*hhx",
    codes "%.s%%",
    refl,
    record {
      flags = [];
      width = codes "*";
      precision = codes ".*";
      whole = refl;
      flags_spelled = record { flags = tt; minus = refl; plus = refl; space = refl; sharp = refl; zero = refl };
      width_spelled = refl;
      precision_spelled = refl;
      takes_length = tt;
    },
    (
      codes "%.s",
      codes "%%",
      refl,
      record {
        flags = [];
        width = [];
        precision = codes ".";
        whole = refl;
        flags_spelled = record { flags = tt; minus = refl; plus = refl; space = refl; sharp = refl; zero = refl };
        width_spelled = refl;
        precision_spelled = ([], refl, record { are_digits = tt; value = refl; limit = lit≤ tt });
        takes_length = refl;
      },
      (codes "%%", [], refl, refl, refl),
    ),
  );
}

-- ---- breaks

-- the first field of the bytes breaks behind this head
in_head : (head : Head) (after : List ℕ) (cause : FormatCause) → IsHead head → length (head_bytes head ++ after) ≤ 4095 → unfinished_stars (Some head) ≤ 64
    → cause_at (Some head) (unfinished_stars (Some head)) (slice_get after 0) ≡ Some cause → BreaksAt (head_bytes head ++ after) cause (length (head_bytes head))
in_head head after cause right short few stops = record {
  short = short;
  before = head_bytes head;
  after = after;
  joined = refl;
  place_is = refl;
  head = Some head;
  count = unfinished_stars (Some head);
  right = record { pieces = []; whole = []; joined = refl; spelled = refl; apart = tt; right = right; count_is = omega arith; few = few };
  stops = stops;
}

-- a head of these parts
abbrev head : List ℕ → List ℕ → List ℕ → Head
head flags width modifier = record { flags = flags; width = width; precision = []; modifier = modifier }

plain : (flags width : List ℕ) (size : Size) → AllByRecursion IsFlag flags → SpellsWidth width size → IsHead (head flags width [])
plain flags width size are_flags spelled = record { flags = are_flags; width = (size, spelled); precision = (Absent, refl); modifier = inl (lengths.Plain, refl) }

modified : (modifier : List ℕ) → IsModifier modifier → IsHead (head [] [] modifier)
modified modifier spelled = record { flags = tt; width = (Absent, refl); precision = (Absent, refl); modifier = spelled }

pub float : FormatBreak (codes "%f") Float 1
float = inr (in_head (head [] [] []) (codes "f") Float (plain [] [] Absent tt refl) (lit≤ tt) (lit≤ tt) refl)

pub long_float : FormatBreak (codes "%Lf") Float 2
long_float = inr (in_head (head [] [] (codes "L")) (codes "f") Float (modified (codes "L") (inr refl)) (lit≤ tt) (lit≤ tt) refl)

pub wide : FormatBreak (codes "%ls") Wide 2
wide = inr (in_head (head [] [] (codes "l")) (codes "s") Wide (modified (codes "l") (inl (lengths.L, refl))) (lit≤ tt) (lit≤ tt) refl)

pub store : FormatBreak (codes "%n") Store 1
store = inr (in_head (head [] [] []) (codes "n") Store (plain [] [] Absent tt refl) (lit≤ tt) (lit≤ tt) refl)

pub bad_percent : FormatBreak (codes "%5%") BadPercent 2
bad_percent = inr (in_head (head [] (codes "5") []) (codes "%") BadPercent (plain [] (codes "5") (Given 5) tt five) (lit≤ tt) (lit≤ tt) refl)

pub bad_length : FormatBreak (codes "%hs") BadLength 2
bad_length = inr (in_head (head [] [] (codes "h")) (codes "s") BadLength (modified (codes "h") (inl (lengths.H, refl))) (lit≤ tt) (lit≤ tt) refl)

one : SpellsWidth (codes "1") (Given 1)
unfolding digits
one = (lit< tt, lit≤ tt, refl)

pub positional : FormatBreak (codes "%1$d") Unknown 2
positional = inr (in_head (head [] (codes "1") []) (codes "$d") Unknown (plain [] (codes "1") (Given 1) tt one) (lit≤ tt) (lit≤ tt) refl)

four_hundred_nine : SpellsWidth (codes "409") (Given 409)
unfolding digits
four_hundred_nine = (lit< tt, lit≤ tt, refl)

pub too_wide : FormatBreak (codes "%4096d") TooWide 4
too_wide = inr (in_head (head [] (codes "409") []) (codes "6d") TooWide (plain [] (codes "409") (Given 409) tt four_hundred_nine) (lit≤ tt) (lit≤ tt) refl)

pub ends : FormatBreak (codes "%-") Ends 2
ends = inr (in_head (head (codes "-") [] []) [] Ends (plain (codes "-") [] Absent (inl refl, tt) refl) (lit≤ tt) (lit≤ tt) refl)

pub nul : FormatBreak (97 ∷ 0 ∷ []) Nul 1
nul = inr (record {
  short = lit≤ tt;
  before = codes "a";
  after = 0 ∷ [];
  joined = refl;
  place_is = refl;
  head = None;
  count = 0;
  right = record {
    pieces = Literal 0 1 ∷ [];
    whole = codes "a";
    joined = refl;
    spelled = (codes "a", [], refl, record { start_is = refl; end_is = refl; nonempty = lit< tt; literal = ((λ h. cc, λ h. cc), tt) }, refl);
    apart = (tt, tt);
    right = tt;
    count_is = refl;
    few = lit≤ tt;
  };
  stops = refl;
})

-- ---- many arguments

fields_spelled : (n at : ℕ) → SpelledFrom at (plain_ds n) (plain_fields n)
fields_spelled zero at = refl
fields_spelled (suc n) at = (codes "%d", plain_ds n, refl, plain_d_spelled, fields_spelled n (at + 2))

fields_apart : (n : ℕ) → AreApart (plain_fields n)
fields_apart zero = tt
fields_apart (suc n) = fields_apart n

pub too_many_args : FormatBreak (plain_ds 65) TooManyArgs 129
too_many_args = inr (record {
  short = lit≤ tt;
  before = plain_ds 64 ++ codes "%";
  after = codes "d";
  joined = refl;
  place_is = refl;
  head = Some (head [] [] []);
  count = 64;
  right = record {
    pieces = plain_fields 64;
    whole = plain_ds 64;
    joined = refl;
    spelled = fields_spelled 64 0;
    apart = fields_apart 64;
    right = plain [] [] Absent tt refl;
    count_is = refl;
    few = lit≤ tt;
  };
  stops = refl;
})

-- ---- `L`, doubled lengths, digits behind a `*`

pub percent_after_l : FormatBreak (codes "%L%") BadPercent 2
percent_after_l = inr (in_head (head [] [] (codes "L")) (codes "%") BadPercent (modified (codes "L") (inr refl)) (lit≤ tt) (lit≤ tt) refl)

pub l_after_l : FormatBreak (codes "%Ll") Unknown 2
l_after_l = inr (in_head (head [] [] (codes "L")) (codes "l") Unknown (modified (codes "L") (inr refl)) (lit≤ tt) (lit≤ tt) refl)

pub third_h : FormatBreak (codes "%hhh") Unknown 3
third_h = inr (in_head (head [] [] (codes "hh")) (codes "h") Unknown (modified (codes "hh") (inl (lengths.HH, refl))) (lit≤ tt) (lit≤ tt) refl)

pub digit_after_star : FormatBreak (codes "%*5d") Unknown 2
digit_after_star = inr (in_head (head [] (codes "*") []) (codes "5d") Unknown (plain [] (codes "*") Star tt refl) (lit≤ tt) (lit≤ tt) refl)

pub too_precise : FormatBreak (codes "%.4096d") TooWide 5
too_precise = inr (in_head (record { flags = []; width = []; precision = codes ".409"; modifier = [] }) (codes "6d") TooWide (record {
  flags = tt;
  width = (Absent, refl);
  precision = (Given 409, (codes "409", refl, record { are_digits = (lit< tt, (lit< tt, (lit< tt, tt))); value = refl; limit = lit≤ tt }));
  modifier = inl (lengths.Plain, refl);
}) (lit≤ tt) (lit≤ tt) refl)

-- ---- just within the limits, and just beyond them

greatest : SpellsWidth (codes "4095") (Given 4095)
unfolding digits
greatest = (lit< tt, lit≤ tt, refl)

pub widest : Spells (codes "%4095d%.4095d") widest_pieces
widest = record {
  short = lit≤ tt;
  few = lit≤ tt;
  apart = tt;
  spelled = (
    codes "%4095d",
    codes "%.4095d",
    refl,
    record {
      flags = [];
      width = codes "4095";
      precision = [];
      whole = refl;
      flags_spelled = record { flags = tt; minus = refl; plus = refl; space = refl; sharp = refl; zero = refl };
      width_spelled = greatest;
      precision_spelled = refl;
      takes_length = tt;
    },
    (
      codes "%.4095d",
      [],
      refl,
      record {
        flags = [];
        width = [];
        precision = codes ".4095";
        whole = refl;
        flags_spelled = record { flags = tt; minus = refl; plus = refl; space = refl; sharp = refl; zero = refl };
        width_spelled = refl;
        precision_spelled = (codes "4095", refl, record { are_digits = (lit< tt, (lit< tt, (lit< tt, (lit< tt, tt)))); value = refl; limit = lit≤ tt });
        takes_length = tt;
      },
      refl,
    ),
  );
}

pub most_args : Spells (plain_ds 64) (plain_fields 64)
most_args = record { short = lit≤ tt; few = lit≤ tt; apart = fields_apart 64; spelled = fields_spelled 64 0 }

-- what holds of an element holds of each of its copies
pub all_copies : {X : Type 0} (P : X → Type 0) (x : X) (n : ℕ) → P x → AllByRecursion P (replicate n x)
all_copies P x zero holds = tt
all_copies P x (suc n) holds = (holds, all_copies P x n holds)

-- a literal may have every length up to the limit
one_literal : (n : ℕ) → 0 < n → n ≤ 4095 → Spells (replicate n 97) (Literal 0 n ∷ [])
one_literal n some short = record {
  short = omega (arith, length-replicate {A = ℕ} n 97, short);
  few = lit≤ tt;
  apart = (tt, tt);
  spelled = (
    replicate n 97,
    [],
    sym (append-nil (replicate n 97)),
    record {
      start_is = refl;
      end_is = omega (arith, length-replicate {A = ℕ} n 97);
      nonempty = omega (arith, length-replicate {A = ℕ} n 97, some);
      literal = all_copies IsLiteralByte 97 n (λ h. cc, λ h. cc);
    },
    refl,
  );
}

pub longest : Spells (replicate 4095 97) (Literal 0 4095 ∷ [])
longest = one_literal 4095 (lit< tt) (lit≤ tt)

pub long : FormatBreak (replicate 4096 97) Long 4095
long = inl (record { long = omega (arith, length-replicate {A = ℕ} 4096 97); cause_is = refl; place_is = refl })

pub longest_text : IsText (replicate 4000 97)
longest_text = record {
  short = omega (arith, length-replicate {A = ℕ} 4000 97);
  no_nul = all_copies (λ byte. byte ≢ 0) 97 4000 (λ h. cc);
}

pub long_text : (bytes : List ℕ) → length bytes ≡ 4001 → ¬ (IsText bytes)
long_text bytes e text = omega (arith, e, text.short)
