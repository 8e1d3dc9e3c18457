use Rattle.decompressor.proofs.Growing.{all_are_settled}
use Rattle.decompressor.proofs.laws.closed_logs_are_settled.Goals as goal

pub returns : goal.returns
returns c = all_are_settled
