use Rattle.std.proofs.Common.{◌≡◌, ◌∷◌, take}
use Rattle.source_tokens.proofs.raw_string.raw_end.Given as goal

abbrev pub invariant-loop-byte : goal.invariant-loop-byte
invariant-loop-byte l = l.closing.items ≡ 41 ∷ take l.byte-index l.delimiter
