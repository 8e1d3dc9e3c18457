use Rattle.std.proofs.Common.{◌≡◌, ◌++◌, ℕ, List, length}
use Rattle.std.specs.Option.{option_map}
use Rattle.source_scan.specs.Escapes.{unescaped_literal}
use Rattle.source_scan.proofs.unescape.literal_bytes.Given as goal

abbrev pub invariant-loop-rest : goal.invariant-loop-rest
invariant-loop-rest l = unescaped_literal l.body ≡ option_map (λ (more : List ℕ). l.bytes.items ++ more) (unescaped_literal l.rest)

abbrev pub decreases-loop-rest : goal.decreases-loop-rest
decreases-loop-rest l = length l.rest
