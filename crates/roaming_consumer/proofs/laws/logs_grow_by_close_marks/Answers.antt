use Rattle.roaming_consumer.proofs.Growth.{closing}
use Rattle.roaming_consumer.proofs.laws.logs_grow_by_close_marks.Goals as goal

pub returns : goal.returns
returns c = closing
