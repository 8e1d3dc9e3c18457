use Rattle.std.proofs.Common.{◌≡◌, ◌+◌, ◌≤◌, drop}
use Rattle.std.specs.Option.{option_map}
use Rattle.source_scan.specs.Arguments.{closing_from}
use Rattle.source_scan.proofs.arguments.closing_place.Given as goal

abbrev pub invariant-loop-place : goal.invariant-loop-place
invariant-loop-place l = (l.depth ≤ l.place) × (closing_from 0 l.tokens ≡ option_map (λ n. l.place + n) (closing_from l.depth (drop l.place l.tokens)))
