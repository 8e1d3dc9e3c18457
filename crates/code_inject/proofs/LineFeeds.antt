-- A rewritten source has the line feeds of its source.
use Rattle.std.proofs.Common.{◌≡◌, ◌≢◌, ℕ, ◌<◌, ◌≤◌, ◌^◌, ◌==◌, List, [], ◌∷◌, ◌++◌, length, refl, sym, ap, ◌∙◌, inl, inr, arith}
use Rattle.std.specs.Prelude.{All, codes, decimal, flat_map}
use Rattle.std.proofs.lemmas.Bool.{cases_Bool, eqb-true}
use Rattle.std.proofs.lemmas.List.Elements.{All-head, All-tail, filter-append}
use Rattle.std.proofs.lemmas.Option.{slice_get_within}
use Rattle.log_dictionary.specs.declared.message.Message.{Message}
use Rattle.log_dictionary.specs.declared.dictionary.TheConstants.{MAX_MESSAGES}
use Rattle.log_dictionary.proofs.lemmas.Lines.{decimal_none}
use Rattle.source_scan.specs.declared.found.Found.{Found}
use Rattle.source_scan.specs.declared.found.Found.TheVariants as found
use Rattle.source_scan.specs.Statements.{Statements}
use Rattle.code_inject.specs.Rewrites.{line_feeds, call_by_id}
use Rattle.code_inject.specs.Injected.{Injected}
use Rattle.code_inject.specs.Pieces.{Piece, piece_source, piece_text, AreHeads}
use Rattle.code_inject.proofs.Differing.{differ_in_heads}

feeds_joined : (a b : List ℕ) → line_feeds (a ++ b) ≡ line_feeds a ++ line_feeds b
feeds_joined a b = filter-append (λ (byte : ℕ). byte == 10) a b

-- bytes that are none have none
no_feeds : (bytes : List ℕ) → All (λ (byte : ℕ). byte ≢ 10) bytes → line_feeds bytes ≡ []
no_feeds [] none = refl
no_feeds (byte ∷ bytes) none =
    elim (cases_Bool (byte == 10)) [
      | inl is ↦ absurd (All-head (λ (b : ℕ). b ≢ 10) byte bytes none (eqb-true byte 10 is))
      | inr other ↦ rw other (no_feeds bytes (All-tail (λ (b : ℕ). b ≢ 10) byte bytes none))
    ]

-- line feeds have themselves
feeds_again : (bytes : List ℕ) → line_feeds (line_feeds bytes) ≡ line_feeds bytes
feeds_again [] = refl
feeds_again (byte ∷ bytes) =
    elim (cases_Bool (byte == 10)) [
      | inl feed ↦ simp feed (ap (λ (l : List ℕ). byte ∷ l) (feeds_again bytes))
      | inr other ↦ rw other (feeds_again bytes)
    ]

-- a call has the line feeds of its head
call_feeds : (id : ℕ) (head : List ℕ) → id < 2 ^ 64 → line_feeds (call_by_id id head) ≡ line_feeds head
call_feeds id head fits =
    let name : List ℕ = codes "NANO_LOG_CALL(" in
    feeds_joined (name ++ decimal id) (line_feeds head) ∙ ap (λ (l : List ℕ). l ++ line_feeds (line_feeds head)) (no_feeds (decimal id) (decimal_none 10 id (inl (omega arith)) fits)) ∙ feeds_again head

piece_feeds : (piece : Piece) → piece.id < 2 ^ 64 → line_feeds (piece_text piece) ≡ line_feeds (piece_source piece)
piece_feeds piece fits =
    feeds_joined piece.kept (call_by_id piece.id piece.head) ∙ ap (λ (l : List ℕ). line_feeds piece.kept ++ l) (call_feeds piece.id piece.head fits) ∙ sym (feeds_joined piece.kept piece.head)

pieces_feeds : (dictionary : List Message) (before : ℕ) (pieces : List Piece) (list : List Found) → length dictionary ≤ MAX_MESSAGES → AreHeads dictionary before pieces list → line_feeds (flat_map piece_text pieces) ≡ line_feeds (flat_map piece_source pieces)
pieces_feeds dictionary before [] list few heads = refl
pieces_feeds dictionary before (piece ∷ pieces) [] few heads = absurd heads
pieces_feeds dictionary before (piece ∷ pieces) (found.Bad bad ∷ list) few heads = absurd heads
pieces_feeds dictionary before (piece ∷ pieces) (found.Statement statement ∷ list) few heads =
    let has = heads.0.has in
    let fits : piece.id < 2 ^ 64 = omega (arith, few, slice_get_within dictionary piece.id has.0 has.1) in
    feeds_joined (piece_text piece) (flat_map piece_text pieces)
    ∙ ap (λ (l : List ℕ). l ++ line_feeds (flat_map piece_text pieces)) (piece_feeds piece fits)
    ∙ ap (λ (l : List ℕ). line_feeds (piece_source piece) ++ l) (pieces_feeds dictionary statement.head pieces list few heads.1)
    ∙ sym (feeds_joined (piece_source piece) (flat_map piece_source pieces))

pub lines_stay : (file source text : List ℕ) (list : List Found) (dictionary : List Message) → length dictionary ≤ MAX_MESSAGES → Statements file source list → Injected source list dictionary text → length (line_feeds text) ≡ length (line_feeds source)
lines_stay file source text list dictionary few statements injected =
    let differs = differ_in_heads file source text list dictionary statements injected in
    ap (λ (l : List ℕ). length (line_feeds l)) differs.text_is
    ∙ ap length (feeds_joined (flat_map piece_text differs.pieces) differs.rest ∙ ap (λ (l : List ℕ). l ++ line_feeds differs.rest) (pieces_feeds dictionary 0 differs.pieces list few differs.heads) ∙ sym (feeds_joined (flat_map piece_source differs.pieces) differs.rest))
    ∙ sym (ap (λ (l : List ℕ). length (line_feeds l)) differs.source_is)
