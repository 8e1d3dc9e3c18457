-- Which bytes spell which pieces (C11 7.21.6.1, paragraphs 3 to 8).
use Rattle.std.specs.Prelude.{◌≡◌, ◌≢◌, ◌⊎◌, ℕ, ◌+◌, ◌<◌, ◌≤◌, List, [], ◌∷◌, ◌++◌, length, ⊤, Bool, ◌==◌}
use Rattle.std.specs.List.{AllByRecursion, list_any}
use Rattle.std.specs.Fmt.{decimal}
use Rattle.std.specs.Str.Parse.{AllDigits, digits_value}
use Rattle.printf_grammar.specs.declared.limits.TheConstants.{MAX_ARGUMENTS, MAX_FORMAT, MAX_SIZE}
use Rattle.printf_grammar.specs.declared.piece.Piece.{Piece}
use Rattle.printf_grammar.specs.declared.piece.Piece.TheVariants.{Literal, Percent, Field}
use Rattle.printf_grammar.specs.declared.piece.Spec.{Spec}
use Rattle.printf_grammar.specs.declared.piece.Size.{Size}
use Rattle.printf_grammar.specs.declared.piece.Size.TheVariants.{Absent, Star, Given}
use Rattle.printf_grammar.specs.declared.piece.Length.{Length}
use Rattle.printf_grammar.specs.declared.piece.Length.TheVariants as lengths
use Rattle.printf_grammar.specs.declared.piece.Conversion.{Conversion}
use Rattle.printf_grammar.specs.declared.piece.Conversion.TheVariants as conversions
use Rattle.printf_grammar.specs.Types.{Types}

-- ---- a field's parts

-- the bytes `-`, `+`, space, `#` and `0` (paragraph 6)
abbrev pub IsFlag : ℕ → Type 0
IsFlag byte = (byte ≡ 45) ⊎ (byte ≡ 43) ⊎ (byte ≡ 32) ⊎ (byte ≡ 35) ⊎ (byte ≡ 48)

-- the byte stands among these
abbrev pub stands : ℕ → List ℕ → Bool
stands byte bytes = list_any (λ other. other == byte) bytes

-- flags in any order, each any number of times; those that stand are the spec's (paragraph 6)
pub record SpellsFlags (bytes : List ℕ) (spec : Spec) : Type 0 where
  pub flags : AllByRecursion IsFlag bytes
  pub minus : spec.minus ≡ stands 45 bytes
  pub plus : spec.plus ≡ stands 43 bytes
  pub space : spec.space ≡ stands 32 bytes
  pub sharp : spec.sharp ≡ stands 35 bytes
  pub zero : spec.zero ≡ stands 48 bytes

-- a width: nothing, `*`, or the decimal digits of a number from 1 to the limit (paragraph 4)
abbrev pub SpellsWidth : List ℕ → Size → Type 0
SpellsWidth bytes Absent = bytes ≡ []
SpellsWidth bytes Star = bytes ≡ 42 ∷ []
SpellsWidth bytes (Given n) = (0 < n) × (n ≤ MAX_SIZE) × (bytes ≡ decimal n)

-- the digits, of which there may be none, of a number up to the limit
pub record SpellsDigits (digits : List ℕ) (n : ℕ) : Type 0 where
  pub are_digits : AllDigits 10 digits
  pub value : digits_value 10 digits ≡ n
  pub limit : n ≤ MAX_SIZE

-- a precision: nothing, or a period and `*` or digits; a period alone is 0 (paragraph 4)
abbrev pub SpellsPrecision : List ℕ → Size → Type 0
SpellsPrecision bytes Absent = bytes ≡ []
SpellsPrecision bytes Star = bytes ≡ 46 ∷ 42 ∷ []
SpellsPrecision bytes (Given n) = (digits : List ℕ) × (bytes ≡ 46 ∷ digits) × SpellsDigits digits n

-- the spelling of a length modifier: `hh`, `h`, `l`, `ll`, `j`, `z`, `t` or nothing (paragraph 7)
abbrev pub length_bytes : Length → List ℕ
length_bytes lengths.Plain = []
length_bytes lengths.HH = 104 ∷ 104 ∷ []
length_bytes lengths.H = 104 ∷ []
length_bytes lengths.L = 108 ∷ []
length_bytes lengths.LL = 108 ∷ 108 ∷ []
length_bytes lengths.J = 106 ∷ []
length_bytes lengths.Z = 122 ∷ []
length_bytes lengths.T = 116 ∷ []

-- the byte that spells a conversion: one of `diouxXcsp` (paragraph 8)
abbrev pub conversion_byte : Conversion → ℕ
conversion_byte conversions.D = 100
conversion_byte conversions.I = 105
conversion_byte conversions.O = 111
conversion_byte conversions.U = 117
conversion_byte conversions.X = 120
conversion_byte conversions.UpperX = 88
conversion_byte conversions.C = 99
conversion_byte conversions.S = 115
conversion_byte conversions.P = 112

-- c, s and p take no length, and the others any (paragraphs 7 and 8)
abbrev pub TakesLength : Conversion → Length → Type 0
TakesLength conversions.C length = length ≡ lengths.Plain
TakesLength conversions.S length = length ≡ lengths.Plain
TakesLength conversions.P length = length ≡ lengths.Plain
TakesLength _ length = ⊤

-- `%`, flags, width, precision, length and conversion, in this order (paragraph 4)
pub record SpellsField (bytes : List ℕ) (spec : Spec) : Type 0 where
  pub flags : List ℕ
  pub width : List ℕ
  pub precision : List ℕ
  pub whole : bytes ≡ 37 ∷ (flags ++ width ++ precision ++ length_bytes spec.length ++ conversion_byte spec.conversion ∷ [])
  pub flags_spelled : SpellsFlags flags spec
  pub width_spelled : SpellsWidth width spec.width
  pub precision_spelled : SpellsPrecision precision spec.precision
  pub takes_length : TakesLength spec.conversion spec.length

-- ---- pieces

-- a byte that is copied as it is: neither `%` nor NUL (paragraph 3)
abbrev pub IsLiteralByte : ℕ → Type 0
IsLiteralByte byte = (byte ≢ 37) × (byte ≢ 0)

-- the bytes, which begin at this place of the format, are a nonempty run from start to end
pub record SpellsLiteral (at : ℕ) (bytes : List ℕ) (start end : ℕ) : Type 0 where
  pub start_is : start ≡ at
  pub end_is : end ≡ at + length bytes
  pub nonempty : 0 < length bytes
  pub literal : AllByRecursion IsLiteralByte bytes

-- the bytes, which begin at this place of the format, spell the piece
abbrev pub SpellsPiece : ℕ → List ℕ → Piece → Type 0
SpellsPiece at bytes (Literal start end) = SpellsLiteral at bytes start end
SpellsPiece at bytes Percent = bytes ≡ 37 ∷ 37 ∷ []
SpellsPiece at bytes (Field spec) = SpellsField bytes spec

-- the first of the pieces, if there is one, is no literal
abbrev pub BeginsWithoutLiteral : List Piece → Type 0
BeginsWithoutLiteral (Literal start end ∷ pieces) = ⊥
BeginsWithoutLiteral _ = ⊤

-- no two literals stand side by side, so that each is as long as it can be
abbrev pub AreApart : List Piece → Type 0
AreApart [] = ⊤
AreApart (Literal start end ∷ pieces) = BeginsWithoutLiteral pieces × AreApart pieces
AreApart (_ ∷ pieces) = AreApart pieces

-- the bytes, which begin at this place of the format, are the spellings of the pieces, joined
abbrev pub SpelledFrom : ℕ → List ℕ → List Piece → Type 0
SpelledFrom at bytes [] = bytes ≡ []
SpelledFrom at bytes (piece ∷ pieces) =
    (front : List ℕ) × (back : List ℕ) × (bytes ≡ front ++ back) × SpellsPiece at front piece × SpelledFrom (at + length front) back pieces

-- the bytes are a format, and these are its pieces
pub record Spells (bytes : List ℕ) (pieces : List Piece) : Type 0 where
  pub short : length bytes ≤ MAX_FORMAT
  pub few : length (Types pieces) ≤ MAX_ARGUMENTS
  pub apart : AreApart pieces
  pub spelled : SpelledFrom 0 bytes pieces
