-- Each text spells pieces or breaks.
use Rattle.std.proofs.Common.{◌≡◌, ◌⊎◌, ℕ, ◌+◌, ◌≤◌, Bool, true, false, not, ◌&&◌, ◌||◌, List, [], ◌∷◌, ◌++◌, length, Option, Some, None, inl, inr, refl, sym, ap, subst, ◌∙◌, arith, append_assoc, length-append}
use Rattle.std.specs.Prelude.{◌==◌, slice_get}
use Rattle.std.proofs.lemmas.Bool.{or_cases, or_parts, or_right, and_parts, cases_Bool, cases_eq, ne_eqb, eqb-true, true≢false, false≢true, cases_lt}
use Rattle.std.proofs.lemmas.List.{append-nil}
use Rattle.printf_grammar.specs.declared.fault.FormatCause.{FormatCause}
use Rattle.printf_grammar.specs.declared.fault.FormatCause.TheVariants.{BadPercent, Ends, Nul, Long}
use Rattle.printf_grammar.specs.declared.piece.Piece.{Piece}
use Rattle.printf_grammar.specs.declared.piece.Piece.TheVariants.{Literal, Percent, Field}
use Rattle.printf_grammar.specs.declared.piece.Spec.{Spec}
use Rattle.printf_grammar.specs.declared.piece.Size.TheVariants.{Absent}
use Rattle.printf_grammar.specs.declared.piece.Length.{Length}
use Rattle.printf_grammar.specs.declared.piece.Length.TheVariants as lengths
use Rattle.printf_grammar.specs.declared.piece.Conversion.{Conversion}
use Rattle.printf_grammar.specs.declared.piece.Conversion.TheVariants as conversions
use Rattle.printf_grammar.specs.declared.arg_type.ArgType.TheVariants as types
use Rattle.printf_grammar.specs.Types.{size_types, field_types, conversion_type, Types}
use Rattle.printf_grammar.specs.Spelling.{stands, TakesLength, SpellsField, SpelledFrom, AreApart, IsLiteralByte, length_bytes, conversion_byte, Spells}
use Rattle.printf_grammar.specs.Breaks.{Head, head_bytes, is_empty, is_only, is_empty_head, is_bad_length, is_conversion, takes_width_star, takes_precision_star, cause_at, cause_in, unfinished_stars, ReadsTo, FormatBreak}
use Rattle.printf_grammar.proofs.Reading.{EndsWithoutLiteral, spelled_more, apart_literal, apart_other, ends_other}
use Rattle.printf_grammar.proofs.Runs.{all_join}
use Rattle.printf_grammar.proofs.Sizes.{stars_join, width_stars, precision_stars}
use Rattle.printf_grammar.proofs.lemmas.Shortening.{snoc_cases, head_of, plain}
use Rattle.printf_grammar.proofs.Longer.{IsFree, free_of, longer, empty_is}
use Rattle.printf_grammar.proofs.Steps.{split, apart_moved, types_more}

-- where the bytes with one more lead to
record Next (before : List ℕ) (byte : ℕ) : Type 0 where
  head : Option Head
  count : ℕ
  reads : ReadsTo (before ++ byte ∷ []) head count

-- ---- a literal byte

literal_next : (before : List ℕ) (byte count : ℕ) → ReadsTo before None count → IsLiteralByte byte → Next before byte
literal_next before byte count reads literal =
    elim (last_literal reads.pieces) [
      | inl ends ↦ record {
        head = None;
        count = count;
        reads = record {
          pieces = reads.pieces ++ Literal at (at + 1) ∷ [];
          whole = reads.whole ++ byte ∷ [];
          joined = joined;
          spelled = spelled_more reads.pieces 0 reads.whole (byte ∷ []) (Literal at (at + 1)) reads.spelled (record { start_is = omega arith; end_is = omega arith; nonempty = omega arith; literal = (literal, tt) });
          apart = apart_literal reads.pieces at (at + 1) reads.apart ends;
          right = tt;
          count_is = let types = types_more reads.pieces (Literal at (at + 1)) 0 refl in omega (arith, types, reads.count_is);
          few = reads.few;
        };
      }
      | inr last ↦ record { head = None; count = count; reads = grown last.0 last.1 last.2 last.3 }
    ]
  where
    at : ℕ
    at = length reads.whole

    joined : before ++ byte ∷ [] ≡ (reads.whole ++ byte ∷ []) ++ []
    joined = rw (reads.joined) (simp append-nil)

    last_literal : (pieces : List Piece) → EndsWithoutLiteral pieces ⊎ ((front : List Piece) × (start : ℕ) × (end : ℕ) × (pieces ≡ front ++ Literal start end ∷ []))
    last_literal pieces =
        elim (snoc_cases pieces) [
          | inl none ↦ inl (rw none tt)
          | inr parts ↦ by_last parts.0 parts.1 parts.2
        ]
      where
        by_last : (front : List Piece) (last : Piece) → pieces ≡ front ++ last ∷ [] → EndsWithoutLiteral pieces ⊎ ((front : List Piece) × (start : ℕ) × (end : ℕ) × (pieces ≡ front ++ Literal start end ∷ []))
        by_last front (Literal start end) e = inr (front, start, end, e)
        by_last front Percent e = inl (rw e (ends_other front Percent tt))
        by_last front (Field spec) e = inl (rw e (ends_other front (Field spec) tt))

    grown : (front : List Piece) (start end : ℕ) → reads.pieces ≡ front ++ Literal start end ∷ [] → ReadsTo (before ++ byte ∷ []) None count
    grown front start end e =
        let spelled : SpelledFrom 0 reads.whole (front ++ Literal start end ∷ []) = subst (SpelledFrom 0 reads.whole) e reads.spelled in
        let apart : AreApart (front ++ Literal start end ∷ []) = subst AreApart e reads.apart in
        let parts = split front (Literal start end) reads.whole spelled in
        let whole : reads.whole ++ byte ∷ [] ≡ parts.front ++ (parts.back ++ byte ∷ []) = ap (λ (all : List ℕ). all ++ byte ∷ []) parts.joined ∙ append_assoc parts.front parts.back (byte ∷ []) in
        let types = types_more front (Literal start end) 0 refl in
        let types' = types_more front (Literal start (end + 1)) 0 refl in
        let old : length (Types reads.pieces) ≡ length (Types (front ++ Literal start end ∷ [])) = ap (λ (pieces : List Piece). length (Types pieces)) e in
        record {
          pieces = front ++ Literal start (end + 1) ∷ [];
          whole = parts.front ++ (parts.back ++ byte ∷ []);
          joined = joined ∙ ap (λ (all : List ℕ). all ++ []) whole;
          spelled = spelled_more front 0 parts.front (parts.back ++ byte ∷ []) (Literal start (end + 1)) parts.spelled (record { start_is = omega (arith, parts.piece.start_is); end_is = omega (arith, parts.piece.end_is, length-append parts.back (byte ∷ [])); nonempty = omega (arith, length-append parts.back (byte ∷ [])); literal = all_join IsLiteralByte parts.back (byte ∷ []) parts.piece.literal (literal, tt) });
          apart = apart_moved front start end (end + 1) apart;
          right = tt;
          count_is = omega (arith, types, types', old, reads.count_is);
          few = reads.few;
        }

percent_next : (before : List ℕ) (count : ℕ) → ReadsTo before None count → Next before 37
percent_next before count reads = record {
  head = Some (head_of [] [] [] []);
  count = count;
  reads = record {
    pieces = reads.pieces;
    whole = reads.whole;
    joined = rw reads.joined (simp append-nil);
    spelled = reads.spelled;
    apart = reads.apart;
    right = record { flags = tt; width = (Absent, refl); precision = (Absent, refl); modifier = plain };
    count_is = omega (arith, reads.count_is);
    few = reads.few;
  };
}

-- ---- a byte of a field

-- the byte goes on with the head
part_next : (before : List ℕ) (byte count : ℕ) (head : Head) → ReadsTo before (Some head) count → IsFree head count byte → is_conversion byte ≡ false → (byte == 37) ≡ false → Next before byte
part_next before byte count head reads free no_conversion no_percent =
    let more = longer head count byte reads.right free no_conversion no_percent in
    let base = length (Types reads.pieces) in
    record {
      head = Some more.whole;
      count = base + unfinished_stars (Some more.whole);
      reads = record {
        pieces = reads.pieces;
        whole = reads.whole;
        joined = ap (λ (all : List ℕ). all ++ byte ∷ []) reads.joined ∙ append_assoc reads.whole (head_bytes head) (byte ∷ []) ∙ ap (λ (back : List ℕ). reads.whole ++ back) more.joined;
        spelled = reads.spelled;
        apart = reads.apart;
        right = more.right;
        count_is = refl;
        few = more.few base (sym reads.count_is) reads.few;
      };
    }

-- the second `%`
second_percent : (before : List ℕ) (count : ℕ) (head : Head) → ReadsTo before (Some head) count → is_empty_head head ≡ true → Next before 37
second_percent before count head reads empty =
    let third = and_parts (is_empty head.flags && is_empty head.width && is_empty head.precision) (is_empty head.modifier) empty in
    let second = and_parts (is_empty head.flags && is_empty head.width) (is_empty head.precision) third.0 in
    let first = and_parts (is_empty head.flags) (is_empty head.width) second.0 in
    let bytes : head_bytes head ≡ 37 ∷ [] = rw (empty_is head.flags first.0, empty_is head.width first.1, empty_is head.precision second.1, empty_is head.modifier third.1) refl in
    let stars : unfinished_stars (Some head) ≡ 0 = rw (empty_is head.width first.1, empty_is head.precision second.1) refl in
    let types = types_more reads.pieces Percent 0 refl in
    record {
      head = None;
      count = count;
      reads = record {
        pieces = reads.pieces ++ Percent ∷ [];
        whole = reads.whole ++ 37 ∷ 37 ∷ [];
        joined = rw reads.joined (ap (λ (back : List ℕ). (reads.whole ++ back) ++ 37 ∷ []) bytes ∙ append_assoc reads.whole (37 ∷ []) (37 ∷ []) ∙ sym (append-nil (reads.whole ++ 37 ∷ 37 ∷ [])));
        spelled = spelled_more reads.pieces 0 reads.whole (37 ∷ 37 ∷ []) Percent reads.spelled refl;
        apart = apart_other reads.pieces Percent reads.apart tt;
        right = tt;
        count_is = omega (arith, types, stars, reads.count_is);
        few = reads.few;
      };
    }

-- the conversion that a byte is
conversion_is : (byte : ℕ) → is_conversion byte ≡ true → (conversion : Conversion) × (byte ≡ conversion_byte conversion)
conversion_is byte e =
    elim (or_cases (100 == byte) _ e) [
      | inl h ↦ (conversions.D, sym (eqb-true 100 byte h))
      | inr e ↦ elim (or_cases (105 == byte) _ e) [
        | inl h ↦ (conversions.I, sym (eqb-true 105 byte h))
        | inr e ↦ elim (or_cases (111 == byte) _ e) [
          | inl h ↦ (conversions.O, sym (eqb-true 111 byte h))
          | inr e ↦ elim (or_cases (117 == byte) _ e) [
            | inl h ↦ (conversions.U, sym (eqb-true 117 byte h))
            | inr e ↦ elim (or_cases (120 == byte) _ e) [
              | inl h ↦ (conversions.X, sym (eqb-true 120 byte h))
              | inr e ↦ elim (or_cases (88 == byte) _ e) [
                | inl h ↦ (conversions.UpperX, sym (eqb-true 88 byte h))
                | inr e ↦ elim (or_cases (99 == byte) _ e) [
                  | inl h ↦ (conversions.C, sym (eqb-true 99 byte h))
                  | inr e ↦ elim (or_cases (115 == byte) _ e) [
                    | inl h ↦ (conversions.S, sym (eqb-true 115 byte h))
                    | inr e ↦ elim (or_cases (112 == byte) false e) [
                      | inl h ↦ (conversions.P, sym (eqb-true 112 byte h))
                      | inr e ↦ absurd (false≢true e)
                    ]
                  ]
                ]
              ]
            ]
          ]
        ]
      ]
    ]

-- c, s and p break after a length
plain_only : (head : Head) (length : Length) → head.modifier ≡ length_bytes length → not (is_empty head.modifier) ≡ false → length ≡ lengths.Plain
plain_only head lengths.Plain e empty = refl
plain_only head lengths.HH e empty = absurd (true≢false (rw e at empty))
plain_only head lengths.H e empty = absurd (true≢false (rw e at empty))
plain_only head lengths.L e empty = absurd (true≢false (rw e at empty))
plain_only head lengths.LL e empty = absurd (true≢false (rw e at empty))
plain_only head lengths.J e empty = absurd (true≢false (rw e at empty))
plain_only head lengths.Z e empty = absurd (true≢false (rw e at empty))
plain_only head lengths.T e empty = absurd (true≢false (rw e at empty))

takes_length : (head : Head) (conversion : Conversion) (length : Length) → head.modifier ≡ length_bytes length → is_bad_length head (conversion_byte conversion) ≡ false → TakesLength conversion length
takes_length head conversions.D length e fits = tt
takes_length head conversions.I length e fits = tt
takes_length head conversions.O length e fits = tt
takes_length head conversions.U length e fits = tt
takes_length head conversions.X length e fits = tt
takes_length head conversions.UpperX length e fits = tt
takes_length head conversions.C length e fits = plain_only head length e (or_parts (not (is_empty head.modifier)) (is_only 76 head.modifier) fits).0
takes_length head conversions.S length e fits = plain_only head length e (or_parts (not (is_empty head.modifier)) (is_only 76 head.modifier) fits).0
takes_length head conversions.P length e fits = plain_only head length e (or_parts (not (is_empty head.modifier)) (is_only 76 head.modifier) fits).0

no_L : (head : Head) (conversion : Conversion) → head.modifier ≡ 76 ∷ [] → is_bad_length head (conversion_byte conversion) ≡ false → ⊥
no_L head conversions.D e fits = true≢false (rw e at fits)
no_L head conversions.I e fits = true≢false (rw e at fits)
no_L head conversions.O e fits = true≢false (rw e at fits)
no_L head conversions.U e fits = true≢false (rw e at fits)
no_L head conversions.X e fits = true≢false (rw e at fits)
no_L head conversions.UpperX e fits = true≢false (rw e at fits)
no_L head conversions.C e fits = true≢false (rw e at fits)
no_L head conversions.S e fits = true≢false (rw e at fits)
no_L head conversions.P e fits = true≢false (rw e at fits)

conversion_next : (before : List ℕ) (byte count : ℕ) (head : Head) → ReadsTo before (Some head) count → IsFree head count byte → is_conversion byte ≡ true → Next before byte
conversion_next before byte count head reads free e =
    let found = conversion_is byte e in
    let fits : is_bad_length head (conversion_byte found.0) ≡ false = subst (λ (b : ℕ). is_bad_length head b ≡ false) found.1 free.bad_length in
    elim reads.right.modifier [
      | inl known ↦ whole found.0 known.0 found.1 known.1 (takes_length head found.0 known.0 known.1 fits)
      | inr l ↦ absurd (no_L head found.0 l fits)
    ]
  where
    whole : (conversion : Conversion) (size : Length) → byte ≡ conversion_byte conversion → head.modifier ≡ length_bytes size → TakesLength conversion size → Next before byte
    whole conversion size byte_is modifier_is takes =
        let width = reads.right.width in
        let precision = reads.right.precision in
        let spec : Spec = record { minus = stands 45 head.flags; plus = stands 43 head.flags; space = stands 32 head.flags; sharp = stands 35 head.flags; zero = stands 48 head.flags; width = width.0; precision = precision.0; length = size; conversion = conversion } in
        let front = head_bytes head ++ byte ∷ [] in
        let field : SpellsField front spec = record {
          flags = head.flags;
          width = head.width;
          precision = head.precision;
          whole = rw (byte_is, modifier_is) refl;
          flags_spelled = record { flags = reads.right.flags; minus = refl; plus = refl; space = refl; sharp = refl; zero = refl };
          width_spelled = width.1;
          precision_spelled = precision.1;
          takes_length = takes;
        } in
        let stars : unfinished_stars (Some head) ≡ length (size_types types.Width width.0) + length (size_types types.Precision precision.0) = stars_join head.width head.precision ∙ omega (arith, width_stars types.Width head.width width.0 width.1, precision_stars types.Precision head.precision precision.0 precision.1) in
        let sizes = length-append (size_types types.Width width.0) (size_types types.Precision precision.0) in
        let more = length-append (size_types types.Width width.0 ++ size_types types.Precision precision.0) (conversion_type conversion size ∷ []) in
        let counted : length (field_types spec) ≡ unfinished_stars (Some head) + 1 = omega (arith, stars, sizes, more) in
        let types = types_more reads.pieces (Field spec) _ counted in
        let room = free.room (takes_third (takes_width_star head byte) (takes_precision_star head byte) (is_conversion byte) e) in
        record {
          head = None;
          count = count + 1;
          reads = record {
            pieces = reads.pieces ++ Field spec ∷ [];
            whole = reads.whole ++ front;
            joined = ap (λ (all : List ℕ). all ++ byte ∷ []) reads.joined ∙ append_assoc reads.whole (head_bytes head) (byte ∷ []) ∙ sym (append-nil (reads.whole ++ front));
            spelled = spelled_more reads.pieces 0 reads.whole front (Field spec) reads.spelled field;
            apart = apart_other reads.pieces (Field spec) reads.apart tt;
            right = tt;
            count_is = omega (arith, types, reads.count_is);
            few = let few = reads.few in omega (arith, few, room);
          };
        }
      where
        takes_third : (a b c : Bool) → c ≡ true → (a || b || c) ≡ true
        takes_third a b c e = or_right _ _ e

-- ---- any byte

some_none : (cause : FormatCause) → (let some : Option FormatCause = Some cause in some ≡ None) → ⊥
some_none cause e = cc

-- a `%` that breaks nothing is the second of `%%`
bare_there : (head : Head) (count : ℕ) → cause_in head count 37 ≡ None → is_empty_head head ≡ true
bare_there head count e =
    elim (cases_Bool (is_empty_head head)) [
      | inl empty ↦ empty
      | inr some ↦
          let broken : cause_in head count 37 ≡ Some BadPercent = rw some refl in
          absurd (some_none BadPercent (sym broken ∙ e))
    ]

next : (before : List ℕ) (byte count : ℕ) (head : Option Head) → ReadsTo before head count → cause_at head count (Some byte) ≡ None → Next before byte
next before byte count None reads free =
    elim (cases_eq byte 37) [
      | inl percent ↦ rw percent (percent_next before count reads)
      | inr other ↦ literal_next before byte count reads (other, λ nul. some_none Nul (rw nul at free))
    ]
next before byte count (Some head) reads free =
    let known = free_of head count byte free in
    elim (cases_Bool (is_conversion byte)) [
      | inl conversion ↦ conversion_next before byte count head reads known conversion
      | inr no_conversion ↦ elim (cases_eq byte 37) [
        | inl percent ↦ rw percent (second_percent before count head reads (bare_there head count (subst (λ (b : ℕ). cause_in head count b ≡ None) percent free)))
        | inr other ↦ part_next before byte count head reads known no_conversion (ne_eqb byte 37 other)
      ]
    ]

-- ---- the whole text

-- the bytes spell pieces, or they break
abbrev pub SpellsOrBreaks : List ℕ → Type 0
SpellsOrBreaks bytes = ((pieces : List Piece) × Spells bytes pieces) ⊎ ((cause : FormatCause) × (place : ℕ) × FormatBreak bytes cause place)

none_or_some : (found : Option FormatCause) → (found ≡ None) ⊎ ((cause : FormatCause) × (found ≡ Some cause))
none_or_some None = inl refl
none_or_some (Some cause) = inr (cause, refl)

breaks_there : (before after : List ℕ) (count : ℕ) (head : Option Head) (cause : FormatCause) → length (before ++ after) ≤ 4095 → ReadsTo before head count → cause_at head count (slice_get after 0) ≡ Some cause → SpellsOrBreaks (before ++ after)
breaks_there before after count head cause short reads stops =
    inr (cause, length before, inr (record { short = short; before = before; after = after; joined = refl; place_is = refl; head = head; count = count; right = reads; stops = stops }))

ends_there : (before : List ℕ) (count : ℕ) (head : Option Head) → length (before ++ []) ≤ 4095 → ReadsTo before head count → SpellsOrBreaks (before ++ [])
ends_there before count None short reads =
    let whole : before ++ [] ≡ reads.whole = append-nil before ∙ reads.joined ∙ append-nil reads.whole in
    inl (reads.pieces, record { short = short; few = omega (arith, reads.count_is, reads.few); apart = reads.apart; spelled = rw whole reads.spelled })
ends_there before count (Some head) short reads = breaks_there before [] count (Some head) Ends short reads refl

from_here : (after before : List ℕ) (count : ℕ) (head : Option Head) → length (before ++ after) ≤ 4095 → ReadsTo before head count → SpellsOrBreaks (before ++ after)
from_here [] before count head short reads = ends_there before count head short reads
from_here (byte ∷ after) before count head short reads =
    elim (none_or_some (cause_at head count (Some byte))) [
      | inl free ↦
          let on = next before byte count head reads free in
          let shape : (before ++ byte ∷ []) ++ after ≡ before ++ byte ∷ after = append_assoc before (byte ∷ []) after in
          subst SpellsOrBreaks shape (from_here after (before ++ byte ∷ []) on.count on.head (rw shape short) on.reads)
      | inr found ↦ breaks_there before (byte ∷ after) count head found.0 short reads found.1
    ]

pub one_holds : (bytes : List ℕ) → SpellsOrBreaks bytes
one_holds bytes =
    elim (cases_lt 4095 (length bytes)) [
      | inl long ↦ inr (Long, 4095, inl (record { long = long; cause_is = refl; place_is = refl }))
      | inr short ↦ from_here bytes [] 0 None short (record { pieces = []; whole = []; joined = refl; spelled = refl; apart = tt; right = tt; count_is = refl; few = omega arith })
    ]
