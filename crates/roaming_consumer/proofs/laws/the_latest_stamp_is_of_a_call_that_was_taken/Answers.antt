use Rattle.roaming_consumer.proofs.Growth.{latest_told}
use Rattle.roaming_consumer.proofs.laws.the_latest_stamp_is_of_a_call_that_was_taken.Goals as goal

pub returns : goal.returns
returns c = latest_told
