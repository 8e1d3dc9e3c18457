-- What a format is.
use Rattle.std.specs.Prelude.{ℕ, List}
use Rattle.printf_grammar.specs.declared.piece.Piece.{Piece}

-- a format's bytes, and the pieces that they spell
pub record Parsed : Type 0 where
  pub bytes : List ℕ
  pub pieces : List Piece
