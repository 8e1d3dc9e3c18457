use Rattle.std.proofs.Common.{◌≡◌, ◌++◌, ℕ, List, length, drop}
use Rattle.code_inject.specs.Rewrites.{rewritten_from, HeadsFrom}
use Rattle.code_inject.proofs.rewrite.push_rewritten.Given as goal

-- some of the text is appended, and with what is left of the source it is all
abbrev pub invariant-loop-rewrite : goal.invariant-loop-rewrite
invariant-loop-rewrite l = record {
  begun : (front : List ℕ) × (l.out.items ≡ l.fn.out.items ++ front);
  whole : l.out.items ++ rewritten_from l.source l.from (drop l.rewrite-index l.rewrites) ≡ l.fn.out.items ++ rewritten_from l.source 0 l.rewrites;
  heads : HeadsFrom l.from (drop l.rewrite-index l.rewrites) (length l.source);
}
