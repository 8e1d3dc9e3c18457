use Rattle.std.proofs.Common.{◌≡◌}
use Rattle.std.specs.Prelude.{replicate}
use Rattle.ring_machine.specs.RingStates.{new_ring}
use Rattle.ring_machine.proofs.rings.Rings.make.Given as goal

-- as many rings as were counted
abbrev pub invariant-loop : goal.invariant-loop
invariant-loop l = l.made.items ≡ replicate l.counter (new_ring l.words)
