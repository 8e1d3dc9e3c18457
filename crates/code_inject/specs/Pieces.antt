-- A rewritten source beside its source, piece by piece.
use Rattle.std.specs.Prelude.{◌≡◌, ℕ, ◌+◌, List, [], ◌∷◌, ◌++◌, length, flat_map}
use Rattle.log_dictionary.specs.declared.message.Message.{Message}
use Rattle.source_scan.specs.declared.found.Found.{Found}
use Rattle.source_scan.specs.declared.found.Found.TheVariants as found
use Rattle.code_inject.specs.declared.rewrite.Rewrite.{Rewrite}
use Rattle.code_inject.specs.Rewrites.{call_by_id}
use Rattle.code_inject.specs.Outcomes.{IsKnown}

-- bytes of a source that stay, and behind them the head of a statement whose message has the id
pub record Piece : Type 0 where
  pub kept : List ℕ
  pub head : List ℕ
  pub id : ℕ

abbrev pub piece_source : Piece → List ℕ
piece_source piece = piece.kept ++ piece.head

abbrev pub piece_text : Piece → List ℕ
piece_text piece = piece.kept ++ call_by_id piece.id piece.head

-- where the head of a piece stands in a source of which so many bytes stand before the piece
abbrev pub place_of : ℕ → Piece → Rewrite
place_of before piece = record {
  start = before + length piece.kept;
  head = before + length piece.kept + length piece.head;
  id = piece.id;
}

-- the heads of the pieces are those of the statements, and the ids those of their messages
abbrev pub AreHeads : List Message → ℕ → List Piece → List Found → Type 0
AreHeads dictionary before [] found = found ≡ []
AreHeads dictionary before (piece ∷ pieces) [] = ⊥
AreHeads dictionary before (piece ∷ pieces) (found.Statement statement ∷ found) =
    IsKnown dictionary statement (place_of before piece) × AreHeads dictionary statement.head pieces found
AreHeads dictionary before (piece ∷ pieces) (found.Bad bad ∷ found) = ⊥

-- the text is the source but for the heads of these statements
pub record DiffersInHeads (source : List ℕ) (found : List Found) (dictionary : List Message) (text : List ℕ)
    : Type 0 where
  pub pieces : List Piece
  pub rest : List ℕ
  pub source_is : source ≡ flat_map piece_source pieces ++ rest
  pub text_is : text ≡ flat_map piece_text pieces ++ rest
  pub heads : AreHeads dictionary 0 pieces found
