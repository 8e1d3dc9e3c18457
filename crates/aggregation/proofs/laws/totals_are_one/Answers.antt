use Rattle.aggregation.proofs.lemmas.TotalsLaws.{one_totals}
use Rattle.aggregation.proofs.laws.totals_are_one.Goals as goal

pub returns : goal.returns
returns c = one_totals
