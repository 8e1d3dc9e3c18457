use Rattle.roaming_consumer.proofs.Growth.{later_clock}
use Rattle.roaming_consumer.proofs.laws.logs_take_later_clocks.Goals as goal

pub returns : goal.returns
returns c = later_clock
