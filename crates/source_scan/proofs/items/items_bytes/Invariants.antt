use Rattle.std.proofs.Common.{◌≡◌, ◌++◌, ℕ, List, length}
use Rattle.std.specs.Option.{option_map}
use Rattle.source_scan.specs.Items.{items_bytes}
use Rattle.source_scan.proofs.items.items_bytes.Given as goal

abbrev pub invariant-loop-rest : goal.invariant-loop-rest
invariant-loop-rest l = items_bytes l.source l.tokens ≡ option_map (λ (more : List ℕ). l.bytes.items ++ more) (items_bytes l.source l.rest)

abbrev pub decreases-loop-rest : goal.decreases-loop-rest
decreases-loop-rest l = length l.rest
