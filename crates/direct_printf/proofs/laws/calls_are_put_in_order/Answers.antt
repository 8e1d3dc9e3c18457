use Rattle.stamp_merge.proofs.lemmas.Ordering.{in_order_by-sorted}
use Rattle.direct_printf.specs.Lines.{call_before}
use Rattle.direct_printf.proofs.lemmas.Sorting.{in_order-permutation, in_order-rises}
use Rattle.direct_printf.proofs.laws.calls_are_put_in_order.Goals as goal

pub returns : goal.returns
returns c = record { same = in_order-permutation; ordered = in_order-rises; stay = in_order_by-sorted call_before }
