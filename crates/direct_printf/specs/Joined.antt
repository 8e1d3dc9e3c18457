-- Two formats, one behind the other.
use Rattle.std.specs.Prelude.{ℕ, ◌+◌, ◌++◌, length, map}
use Rattle.printf_grammar.specs.declared.piece.Piece.{Piece}
use Rattle.printf_grammar.specs.declared.piece.Piece.TheVariants.{Literal, Percent, Field}
use Rattle.printf_grammar.specs.Pieces.{Parsed}

-- a piece behind so many bytes more
abbrev pub moved : ℕ → Piece → Piece
moved n (Literal start end) = Literal (n + start) (n + end)
moved n Percent = Percent
moved n (Field spec) = Field spec

-- the first format and behind it the second
abbrev pub joined : Parsed → Parsed → Parsed
joined first second =
    record {
      bytes = first.bytes ++ second.bytes;
      pieces = first.pieces ++ map (moved (length first.bytes)) second.pieces;
    }
