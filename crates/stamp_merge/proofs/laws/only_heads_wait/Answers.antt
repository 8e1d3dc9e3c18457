use Rattle.stamp_merge.proofs.Later.{pushed_count}
use Rattle.stamp_merge.proofs.laws.only_heads_wait.Goals as goal

pub returns : goal.returns
returns c lists past n calls = pushed_count lists past n calls
