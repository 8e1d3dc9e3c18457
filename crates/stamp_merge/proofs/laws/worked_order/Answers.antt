use Rattle.std.proofs.Common.{refl}
use Rattle.stamp_merge.specs.Ordering.{insert_by, in_order_by}
use Rattle.stamp_merge.proofs.laws.worked_order.Goals as goal

pub returns : goal.returns
unfolding insert_by in_order_by
returns c = record { stamps = refl; lists = refl }
