use Rattle.std.proofs.Common.{arith}
use Rattle.stamp_merge.proofs.lemmas.MergeKeys.{merged-rises}
use Rattle.stamp_merge.proofs.laws.orders_are_merged.Goals as goal

pub returns : goal.returns
returns c lists k d within = merged-rises lists k d (omega arith) within
