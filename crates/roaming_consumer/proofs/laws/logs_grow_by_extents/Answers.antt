use Rattle.roaming_consumer.proofs.Growth.{grown}
use Rattle.roaming_consumer.proofs.laws.logs_grow_by_extents.Goals as goal

pub returns : goal.returns
returns c = grown
