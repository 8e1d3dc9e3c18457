use Rattle.aggregation.proofs.lemmas.TotalsLaws.{reached}
use Rattle.aggregation.proofs.laws.ranges_are_reached.Goals as goal

pub returns : goal.returns
returns c = reached
