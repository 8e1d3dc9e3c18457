-- Bytes as whole lines and a rest.
use Rattle.std.proofs.Common.{◌≡◌, ◌≢◌, ℕ, Bool, true, false, eqb, List, [], ◌∷◌, ◌++◌, All, refl, sym, ap, ◌∙◌, append_assoc}
use Rattle.std.proofs.lemmas.Bool.{eqb-true, eqb-false}
use Rattle.std.proofs.lemmas.List.Elements.{recursion_from_All}
use Rattle.log_dictionary.specs.Fields.{IsFirstSplit}
use Rattle.trace_text.specs.Lines.{text_of_lines}
use Rattle.std.specs.List.{AllByRecursion}
use Rattle.trace_text.specs.Reading.{IsOneLine, IsCutIntoLines}

-- ---- every list of bytes is cut in one way

-- bytes with the lines and the rest into which they are cut
pub record CutOf (bytes : List ℕ) : Type 0 where
  pub lines : List (List ℕ)
  pub rest : List ℕ
  pub cut : IsCutIntoLines bytes lines rest

-- a byte more in front, which ends an empty line
cut_at_feed : (byte : ℕ) (bytes : List ℕ) → byte ≡ 10 → CutOf bytes → CutOf (byte ∷ bytes)
cut_at_feed byte bytes feed found = record {
  lines = [] ∷ found.lines;
  rest = found.rest;
  cut = record { joined = ap (λ (b : ℕ). b ∷ bytes) feed ∙ ap (λ (r : List ℕ). 10 ∷ r) found.cut.joined; whole = (tt, found.cut.whole); unended = found.cut.unended };
}

-- a byte more in front, which is the first one of the first line, or of the rest
longer : (byte : ℕ) (bytes : List ℕ) (lines : List (List ℕ)) (rest : List ℕ) → byte ≢ 10 → IsCutIntoLines bytes lines rest → CutOf (byte ∷ bytes)
longer byte bytes [] rest no_feed cut = record {
  lines = [];
  rest = byte ∷ rest;
  cut = record { joined = ap (λ (r : List ℕ). byte ∷ r) cut.joined; whole = tt; unended = (no_feed, cut.unended) };
}
longer byte bytes (line ∷ lines) rest no_feed cut = record {
  lines = (byte ∷ line) ∷ lines;
  rest = rest;
  cut = record { joined = ap (λ (r : List ℕ). byte ∷ r) cut.joined; whole = ((no_feed, cut.whole.0), cut.whole.1); unended = cut.unended };
}

cut_more : (byte : ℕ) (bytes : List ℕ) (b : Bool) → eqb byte 10 ≡ b → CutOf bytes → CutOf (byte ∷ bytes)
cut_more byte bytes true feed found = cut_at_feed byte bytes (eqb-true _ _ feed) found
cut_more byte bytes false no_feed found = longer byte bytes found.lines found.rest (eqb-false _ _ no_feed) found.cut

pub cut_of : (bytes : List ℕ) → CutOf bytes
cut_of [] = record { lines = []; rest = []; cut = record { joined = refl; whole = tt; unended = tt } }
cut_of (byte ∷ bytes) = cut_more byte bytes (eqb byte 10) refl (cut_of bytes)

-- ---- the first line

-- a line in front of what is cut
pub cut_behind : (bytes line behind : List ℕ) (lines : List (List ℕ)) (rest : List ℕ) → IsFirstSplit 10 bytes line behind → IsCutIntoLines behind lines rest → IsCutIntoLines bytes (line ∷ lines) rest
cut_behind bytes line behind lines rest split cut = record {
  joined = split.parts ∙ ap (λ (r : List ℕ). line ++ 10 ∷ r) cut.joined ∙ sym (append_assoc line (10 ∷ text_of_lines lines) rest);
  whole = (recursion_from_All (λ byte. byte ≢ 10) line split.first, cut.whole);
  unended = cut.unended;
}

-- bytes in which no line ends
pub cut_unended : (bytes : List ℕ) → All (λ byte. byte ≢ 10) bytes → IsCutIntoLines bytes [] bytes
cut_unended bytes none = record { joined = refl; whole = tt; unended = recursion_from_All (λ byte. byte ≢ 10) bytes none }

-- whole lines in front of what is cut
pub cut_lines : (lines : List (List ℕ)) (bytes : List ℕ) (more : List (List ℕ)) (rest : List ℕ) → AllByRecursion IsOneLine lines → IsCutIntoLines bytes more rest → IsCutIntoLines (text_of_lines lines ++ bytes) (lines ++ more) rest
cut_lines [] bytes more rest whole cut = cut
cut_lines (line ∷ lines) bytes more rest whole cut =
    let others = cut_lines lines bytes more rest whole.1 cut in
    record {
      joined = append_assoc line (10 ∷ text_of_lines lines) bytes ∙ ap (λ (r : List ℕ). line ++ 10 ∷ r) others.joined ∙ sym (append_assoc line (10 ∷ text_of_lines (lines ++ more)) rest);
      whole = (whole.0, others.whole);
      unended = others.unended;
    }
