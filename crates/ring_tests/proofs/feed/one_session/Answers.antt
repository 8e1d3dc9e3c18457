use Rattle.std.proofs.Common.{rules, ◌≡◌, ◌++◌, ◌∷◌, [], ap, ◌∙◌}
use Rattle.ring_core.specs.Plans.{plan_of}
use Rattle.ring_tests.proofs.Lists.{one_left}
use Rattle.ring_tests.proofs.feed.one_session.Goals as goal

pub invariant_of-result : goal.invariant_of-result
invariant_of-result c =
    let popped : c.in_ok-writers.writers.items ≡ c.pop.new.self.items ++ c.in_ok-writer.writer ∷ [] = let p = c.pop.ensures in let w = c.in_ok-writer.ensures in search rules in
    let ring = one_left _ _ _ _ _ popped c.in_ok-writers.ensures.count c.in_ok-writers.ensures.rings in
    record { planned = ring.2.plan_is ∙ ap (plan_of c.leak-dictionary.result.now) c.in_ok-clocks.ensures.0 }
