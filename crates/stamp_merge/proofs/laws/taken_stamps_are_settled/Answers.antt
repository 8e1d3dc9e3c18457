use Rattle.stamp_merge.proofs.Later.{taken_first}
use Rattle.stamp_merge.proofs.laws.taken_stamps_are_settled.Goals as goal

pub returns : goal.returns
returns c lists past later calls on = taken_first lists past later calls on
