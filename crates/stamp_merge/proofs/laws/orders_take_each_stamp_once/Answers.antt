use Rattle.stamp_merge.proofs.lemmas.MergeKeys.{merge_order-counts}
use Rattle.stamp_merge.proofs.laws.orders_take_each_stamp_once.Goals as goal

pub returns : goal.returns
returns c lists n = merge_order-counts lists n
