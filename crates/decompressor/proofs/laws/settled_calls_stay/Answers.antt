use Rattle.decompressor.proofs.Growing.{settled_on, settled_first}
use Rattle.decompressor.proofs.laws.settled_calls_stay.Goals as goal

pub returns-clause-settled : goal.returns-clause-settled
returns-clause-settled c = settled_on

pub returns-clause-front : goal.returns-clause-front
returns-clause-front c = settled_first
