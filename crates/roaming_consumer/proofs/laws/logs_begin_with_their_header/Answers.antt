use Rattle.roaming_consumer.proofs.Growth.{beginning}
use Rattle.roaming_consumer.proofs.laws.logs_begin_with_their_header.Goals as goal

pub returns : goal.returns
returns c = beginning
