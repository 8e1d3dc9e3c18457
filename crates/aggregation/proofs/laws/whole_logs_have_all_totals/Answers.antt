use Rattle.aggregation.proofs.lemmas.TotalsLaws.{whole_totals}
use Rattle.aggregation.proofs.laws.whole_logs_have_all_totals.Goals as goal

pub returns : goal.returns
returns c = whole_totals
