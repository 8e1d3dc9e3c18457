use Rattle.std.proofs.Common.{◌≡◌, ◌++◌, drop, map, List, ℕ}
use Rattle.direct_printf.specs.Fields.{Text}
use Rattle.direct_printf.proofs.Rest.{Rest}
use Rattle.direct_printf.proofs.text.append_text.Given as goal

-- a front of the text is appended, and what is left writes the others
abbrev pub invariant-loop-piece : goal.invariant-loop-piece
invariant-loop-piece g l =
    (front : List ℕ) × (l.out.items ≡ l.fn.out.items ++ front)
    × Rest l.bytes (drop l.piece-index l.piece-items) (drop l.next (map g.A.Argument.value l.args)) front (Text l.format (map g.A.Argument.value l.args))
