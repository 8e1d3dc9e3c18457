-- Worked formats and what they are.
use Rattle.std.specs.Prelude.{ℕ, zero, suc, List, [], ◌∷◌, true}
use Rattle.printf_grammar.specs.declared.piece.Piece.{Piece}
use Rattle.printf_grammar.specs.declared.piece.Piece.TheVariants.{Literal, Percent, Field}
use Rattle.printf_grammar.specs.declared.piece.Size.TheVariants.{Star, Given}
use Rattle.printf_grammar.specs.declared.piece.Length.TheVariants as lengths
use Rattle.printf_grammar.specs.declared.piece.Conversion.TheVariants as conversions
use Rattle.printf_grammar.specs.Narrow.{plain_d}

-- `%5d|%-5d|%05d`
abbrev pub padded_pieces : List Piece
padded_pieces =
    Field (record plain_d { width = Given 5 }) ∷ Literal 3 4 ∷ Field (record plain_d { minus = true; width = Given 5 }) ∷ Literal 8 9 ∷ Field (record plain_d { zero = true; width = Given 5 }) ∷ []

-- `%*.*hhx%.s%%`
abbrev pub starred_pieces : List Piece
starred_pieces =
    Field (record plain_d { width = Star; precision = Star; length = lengths.HH; conversion = conversions.X }) ∷ Field (record plain_d { precision = Given 0; conversion = conversions.S }) ∷ Percent ∷ []

-- `%4095d%.4095d`
abbrev pub widest_pieces : List Piece
widest_pieces = Field (record plain_d { width = Given 4095 }) ∷ Field (record plain_d { precision = Given 4095 }) ∷ []

-- `%d`, as often as the number says
abbrev pub plain_ds : ℕ → List ℕ
plain_ds zero = []
plain_ds (suc n) = 37 ∷ 100 ∷ plain_ds n

-- the pieces of that
abbrev pub plain_fields : ℕ → List Piece
plain_fields zero = []
plain_fields (suc n) = Field plain_d ∷ plain_fields n
