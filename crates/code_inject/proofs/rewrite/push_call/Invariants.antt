use Rattle.std.proofs.Common.{◌≡◌, ◌++◌, take}
use Rattle.std.specs.Prelude.{codes, decimal}
use Rattle.code_inject.specs.Rewrites.{line_feeds}
use Rattle.code_inject.proofs.rewrite.push_call.Given as goal

-- the name, the id and the line feeds so far are appended
abbrev pub invariant-loop-byte : goal.invariant-loop-byte
invariant-loop-byte l = l.out.items ≡ (l.fn.out.items ++ codes "NANO_LOG_CALL(" ++ decimal l.id) ++ line_feeds (take l.byte-index l.head)
