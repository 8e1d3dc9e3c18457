-- Pieces read from left to right.
use Rattle.std.proofs.Common.{◌≡◌, ◌⊎◌, ℕ, ◌+◌, ◌-◌, ◌≤◌, true, false, List, [], ◌∷◌, ◌++◌, length, inl, inr, refl, sym, ap, subst, ◌∙◌, arith, append_assoc, length-append}
use Rattle.std.specs.Prelude.{⊤}
use Rattle.std.proofs.lemmas.Bool.{true≢false, ne_eqb}
use Rattle.std.proofs.lemmas.List.{append-nil}
use Rattle.printf_grammar.specs.declared.fault.FormatCause.{FormatCause}
use Rattle.printf_grammar.specs.declared.piece.Piece.{Piece}
use Rattle.printf_grammar.specs.declared.piece.Piece.TheVariants.{Literal, Percent, Field}
use Rattle.printf_grammar.specs.declared.arg_type.ArgType.{ArgType}
use Rattle.printf_grammar.specs.Types.{piece_types, Types}
use Rattle.printf_grammar.specs.Spelling.{SpellsPiece, SpelledFrom, AreApart, BeginsWithoutLiteral, Spells}
use Rattle.printf_grammar.specs.Breaks.{BreaksAt, unfinished_bytes, unfinished_stars}
use Rattle.printf_grammar.specs.Parts.{BeginsWithout, BeginsWithPiece, BeginsBroken, is_plain_byte}
use Rattle.printf_grammar.proofs.Taking.{Types-append}

-- ---- one more piece

pub spelled_more : (pieces : List Piece) (at : ℕ) (whole front : List ℕ) (piece : Piece) → SpelledFrom at whole pieces → SpellsPiece (at + length whole) front piece → SpelledFrom at (whole ++ front) (pieces ++ piece ∷ [])
spelled_more [] at whole front piece spelled next =
    let none : at + length whole ≡ at = omega (arith, ap length spelled) in
    (front, [], rw (spelled, append-nil front) refl, subst (λ (k : ℕ). SpellsPiece k front piece) none next, refl)
spelled_more (first ∷ pieces) at whole front piece spelled next =
    let place : (at + length spelled.0) + length spelled.1 ≡ at + length whole = omega (arith, ap length spelled.2, length-append spelled.0 spelled.1) in
    (spelled.0, spelled.1 ++ front, rw spelled.2 (append_assoc spelled.0 spelled.1 front), spelled.3, spelled_more pieces (at + length spelled.0) spelled.1 front piece spelled.4 (subst (λ (k : ℕ). SpellsPiece k front piece) (sym place) next))

-- the last of the pieces is no literal
abbrev pub EndsWithoutLiteral : List Piece → Type 0
EndsWithoutLiteral [] = ⊤
EndsWithoutLiteral (piece ∷ []) = BeginsWithoutLiteral (piece ∷ [])
EndsWithoutLiteral (piece ∷ second ∷ pieces) = EndsWithoutLiteral (second ∷ pieces)

pub apart_literal : (pieces : List Piece) (start end : ℕ) → AreApart pieces → EndsWithoutLiteral pieces → AreApart (pieces ++ Literal start end ∷ [])
apart_literal [] start end apart ends = (tt, tt)
apart_literal (Literal a b ∷ []) start end apart ends = absurd ends
apart_literal (Percent ∷ []) start end apart ends = (tt, tt)
apart_literal (Field spec ∷ []) start end apart ends = (tt, tt)
apart_literal (Literal a b ∷ Literal c d ∷ pieces) start end apart ends = absurd apart.0
apart_literal (Literal a b ∷ Percent ∷ pieces) start end apart ends = (tt, apart_literal (Percent ∷ pieces) start end apart.1 ends)
apart_literal (Literal a b ∷ Field spec ∷ pieces) start end apart ends = (tt, apart_literal (Field spec ∷ pieces) start end apart.1 ends)
apart_literal (Percent ∷ second ∷ pieces) start end apart ends = apart_literal (second ∷ pieces) start end apart ends
apart_literal (Field spec ∷ second ∷ pieces) start end apart ends = apart_literal (second ∷ pieces) start end apart ends

pub apart_other : (pieces : List Piece) (piece : Piece) → AreApart pieces → BeginsWithoutLiteral (piece ∷ []) → AreApart (pieces ++ piece ∷ [])
apart_other [] (Literal a b) apart other = absurd other
apart_other [] Percent apart other = tt
apart_other [] (Field spec) apart other = tt
apart_other (Literal a b ∷ []) (Literal c d) apart other = absurd other
apart_other (Literal a b ∷ []) Percent apart other = (tt, tt)
apart_other (Literal a b ∷ []) (Field spec) apart other = (tt, tt)
apart_other (Literal a b ∷ Literal c d ∷ pieces) piece apart other = absurd apart.0
apart_other (Literal a b ∷ Percent ∷ pieces) piece apart other = (tt, apart_other (Percent ∷ pieces) piece apart.1 other)
apart_other (Literal a b ∷ Field spec ∷ pieces) piece apart other = (tt, apart_other (Field spec ∷ pieces) piece apart.1 other)
apart_other (Percent ∷ pieces) piece apart other = apart_other pieces piece apart other
apart_other (Field spec ∷ pieces) piece apart other = apart_other pieces piece apart other

pub ends_other : (pieces : List Piece) (piece : Piece) → BeginsWithoutLiteral (piece ∷ []) → EndsWithoutLiteral (pieces ++ piece ∷ [])
ends_other [] piece other = other
ends_other (first ∷ []) piece other = other
ends_other (first ∷ second ∷ pieces) piece other = ends_other (second ∷ pieces) piece other

-- ---- the loop

-- the bytes before the rest are these pieces, which take these types
pub record IsReadTo (bytes : List ℕ) (pieces : List Piece) (types : List ArgType) (rest : List ℕ) : Type 0 where
  pub whole : List ℕ
  pub joined : bytes ≡ whole ++ rest
  pub spelled : SpelledFrom 0 whole pieces
  pub apart : AreApart pieces
  pub types_is : types ≡ Types pieces
  pub few : length types ≤ 64
  -- a literal that was read is as long as it can be
  pub ended : BeginsWithout is_plain_byte rest ⊎ EndsWithoutLiteral pieces

pub read_none : (bytes : List ℕ) → IsReadTo bytes [] [] bytes
read_none bytes = record { whole = []; joined = refl; spelled = refl; apart = tt; types_is = refl; few = omega arith; ended = inr tt }

pub read_all : (bytes : List ℕ) (pieces : List Piece) (types : List ArgType) (rest : List ℕ) → length bytes ≤ 4095 → rest ≡ [] → IsReadTo bytes pieces types rest → Spells bytes pieces
read_all bytes pieces types rest short none read =
    let all : bytes ≡ read.whole = read.joined ∙ rw none (append-nil read.whole) in
    record { short = short; few = omega (arith, ap length read.types_is, read.few); apart = read.apart; spelled = rw all read.spelled }

pub read_broken : (bytes : List ℕ) (pieces : List Piece) (types : List ArgType) (rest : List ℕ) (taken : ℕ) (cause : FormatCause) (behind : List ℕ) → length bytes ≤ 4095 → IsReadTo bytes pieces types rest → taken ≡ length types → BeginsBroken taken rest cause behind
    → BreaksAt bytes cause (length bytes - length behind)
read_broken bytes pieces types rest taken cause behind short read taken_is broken =
    let before = read.whole ++ unfinished_bytes broken.head in
    let joined : bytes ≡ before ++ behind = read.joined ∙ ap (λ (back : List ℕ). read.whole ++ back) broken.joined ∙ sym (append_assoc read.whole (unfinished_bytes broken.head) behind) in
    record {
      short = short;
      before = before;
      after = behind;
      joined = joined;
      place_is = omega (arith, ap length joined, length-append before behind);
      head = broken.head;
      count = taken + unfinished_stars broken.head;
      right = record { pieces = pieces; whole = read.whole; joined = refl; spelled = read.spelled; apart = read.apart; right = broken.right; count_is = omega (arith, taken_is, ap length read.types_is); few = broken.few };
      stops = broken.stops;
    }

read_on : (bytes : List ℕ) (pieces : List Piece) (types : List ArgType) (rest : List ℕ) (piece : Piece) (after : List ℕ) (read : IsReadTo bytes pieces types rest) (begins : BeginsWithPiece (length read.whole) (length types) rest piece after)
    → AreApart (pieces ++ piece ∷ []) → BeginsWithout is_plain_byte after ⊎ EndsWithoutLiteral (pieces ++ piece ∷ []) → IsReadTo bytes (pieces ++ piece ∷ []) (types ++ piece_types piece) after
read_on bytes pieces types rest piece after read begins apart ended = record {
  whole = read.whole ++ begins.front;
  joined = read.joined ∙ ap (λ (back : List ℕ). read.whole ++ back) begins.joined ∙ sym (append_assoc read.whole begins.front after);
  spelled = spelled_more pieces 0 read.whole begins.front piece read.spelled (subst (λ (at : ℕ). SpellsPiece at begins.front piece) (omega arith) begins.spelled);
  apart = apart;
  types_is = rw read.types_is (sym (Types-append pieces (piece ∷ []) ∙ ap (λ (more : List ArgType). Types pieces ++ more) (append-nil (piece_types piece))));
  few = omega (arith, length-append types (piece_types piece), begins.few);
  ended = ended;
}

-- a literal that comes next has a first byte, which ends no literal before it
begins_literal : (at start end : ℕ) (rest front after : List ℕ) → rest ≡ front ++ after → SpellsPiece at front (Literal start end) → BeginsWithout is_plain_byte rest → ⊥
begins_literal at start end rest [] after e spelled ended = let some = spelled.nonempty in omega arith
begins_literal at start end rest (byte ∷ front) after e spelled ended =
    let no_percent = ne_eqb byte 37 spelled.literal.0.0 in
    let no_nul = ne_eqb byte 0 spelled.literal.0.1 in
    let ends : is_plain_byte byte ≡ false = rw e at ended in
    let literal : is_plain_byte byte ≡ true = rw (no_percent, no_nul) refl in
    true≢false (sym literal ∙ ends)

pub read_more : (bytes : List ℕ) (pieces : List Piece) (types : List ArgType) (rest : List ℕ) (taken : ℕ) (piece : Piece) (after : List ℕ) → IsReadTo bytes pieces types rest → taken ≡ length types → BeginsWithPiece (length bytes - length rest) taken rest piece after
    → IsReadTo bytes (pieces ++ piece ∷ []) (types ++ piece_types piece) after
read_more bytes pieces types rest taken piece after read taken_is begins =
    let place : length bytes - length rest ≡ length read.whole = omega (arith, ap length read.joined, length-append read.whole rest) in
    more piece (subst (λ (at : ℕ). BeginsWithPiece at (length types) rest piece after) place (subst (λ (count : ℕ). BeginsWithPiece (length bytes - length rest) count rest piece after) taken_is begins))
  where
    more : (piece : Piece) → BeginsWithPiece (length read.whole) (length types) rest piece after → IsReadTo bytes (pieces ++ piece ∷ []) (types ++ piece_types piece) after
    more (Literal start end) begins =
        let apart : EndsWithoutLiteral pieces = elim read.ended [
          | inl ended ↦ absurd (begins_literal _ start end rest begins.front after begins.joined begins.spelled ended)
          | inr ends ↦ ends
        ] in
        read_on bytes pieces types rest (Literal start end) after read begins (apart_literal pieces start end read.apart apart) (inl begins.ended)
    more Percent begins = read_on bytes pieces types rest Percent after read begins (apart_other pieces Percent read.apart tt) (inr (ends_other pieces Percent tt))
    more (Field spec) begins = read_on bytes pieces types rest (Field spec) after read begins (apart_other pieces (Field spec) read.apart tt) (inr (ends_other pieces (Field spec) tt))
