use Rattle.std.proofs.Common.{◌≡◌}
use Rattle.ring_tests.proofs.rings.visit_all.Given as goal

abbrev pub invariant-loop-visit : goal.invariant-loop-visit
invariant-loop-visit g l = l.visitor ≡ l.initial.visitor
