use Rattle.std.proofs.Common.{◌≡◌, [], ◌∷◌, ◌++◌, take}
use Rattle.log_dictionary.specs.Canonical.{canonical_text}
use Rattle.log_dictionary.proofs.writing.push_text.Given as goal

-- the mark and the bytes so far are appended
abbrev pub invariant-loop-byte : goal.invariant-loop-byte
invariant-loop-byte l = l.out.items ≡ (l.fn.out.items ++ 34 ∷ []) ++ canonical_text (take l.byte-index l.bytes)
