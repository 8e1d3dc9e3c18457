use Rattle.std.proofs.Common.{arith}
use Rattle.stamp_merge.proofs.Winners.{fresh_keeps}
use Rattle.stamp_merge.proofs.merger.Merger.make.Goals as goal

pub invariant_of-result : goal.invariant_of-result
invariant_of-result c =
    fresh_keeps _ _ _ _ (c.in_ok-from_elem.ensures.items_if_clones_equal (λ y same. same)) (c.in_ok-from_elem-2.ensures.items_if_clones_equal (λ y same. same)) (omega arith) (omega arith) (omega (arith, c.ranges.lists.fits))
