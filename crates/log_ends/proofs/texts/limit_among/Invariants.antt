use Rattle.std.proofs.Common.{◌≡◌, drop}
use Rattle.log_ends.specs.Texts.{text_limits, limit_at}
use Rattle.log_ends.proofs.texts.limit_among.Given as goal

abbrev pub invariant-loop-piece : goal.invariant-loop-piece
invariant-loop-piece l =
    limit_at (text_limits l.pieces) l.nth ≡ limit_at (text_limits (drop l.piece-index l.pieces)) l.left
