use Rattle.std.proofs.Common.{◌≡◌, ℕ, ◌+◌, ◌-◌, ◌<◌, ◌≤◌, List, ◌∷◌, length, get_or, drop, sym, ap, ◌∙◌, add-one, drop-cons, arith}
use Rattle.std.proofs.lemmas.List.{get_or_append_left, get_or-append_right, drop_all}
use Rattle.std.specs.Prelude.{None}
use Rattle.printf_grammar.specs.declared.piece.Piece.{Piece}
use Rattle.log_ends.specs.Texts.{piece_limits, text_limits, limit_at}
use Rattle.log_ends.proofs.texts.limit_among.Goals as goal

-- the pieces from this one on
from_here : (pieces : List Piece) (at : ℕ) (default : Piece) → at < length pieces → drop at pieces ≡ get_or pieces at default ∷ drop (at + 1) pieces
from_here pieces at default within = rw (add-one, drop-cons pieces at default within)

-- the argument is one of this piece
in_piece : (pieces : List Piece) (at left : ℕ) (default : Piece) → at < length pieces → left < length (piece_limits (get_or pieces at default))
    → limit_at (text_limits (drop at pieces)) left ≡ limit_at (piece_limits (get_or pieces at default)) left
in_piece pieces at left default within few =
    ap (λ (from : List Piece). limit_at (text_limits from) left) (from_here pieces at default within)
    ∙ get_or_append_left (piece_limits (get_or pieces at default)) (text_limits (drop (at + 1) pieces)) None left few

-- it is one of those behind the piece
behind_piece : (pieces : List Piece) (at left count : ℕ) (default : Piece) → at < length pieces → count ≡ length (piece_limits (get_or pieces at default)) → count ≤ left
    → limit_at (text_limits (drop at pieces)) left ≡ limit_at (text_limits (drop (at + 1) pieces)) (left - count)
behind_piece pieces at left count default within is many =
    ap (λ (from : List Piece). limit_at (text_limits from) left) (from_here pieces at default within)
    ∙ get_or-append_right (piece_limits (get_or pieces at default)) (text_limits (drop (at + 1) pieces)) count left None (sym is) many

pub returns-then-left-count : goal.returns-then-left-count
returns-then-left-count c =
    c.limit_in.ensures
    ∙ sym (in_piece c.args.pieces.now c.loop-piece.piece-index c.loop-piece.left _ c.loop-piece-test.true (omega (arith, c.if-left-count.true, c.argument_count-count.ensures)))
    ∙ sym c.loop-piece.invariant

pub loop-piece-preserved : goal.loop-piece-preserved
loop-piece-preserved c =
    c.loop-piece.invariant
    ∙ behind_piece c.args.pieces.now c.loop-piece.piece-index c.loop-piece.left c.argument_count-count.result _ c.loop-piece-test.true c.argument_count-count.ensures c.if-left-count.false

pub returns : goal.returns
returns c =
    sym (c.loop-piece.invariant ∙ ap (λ (from : List Piece). limit_at (text_limits from) c.loop-piece.left) (drop_all c.loop-piece.piece-index c.args.pieces.now c.loop-piece-test.false))
