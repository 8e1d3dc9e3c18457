use Rattle.aggregation.proofs.lemmas.TotalsLaws.{none_of_none, none_from_none}
use Rattle.aggregation.proofs.laws.no_numbers_have_no_range.Goals as goal

pub returns : goal.returns
returns c = record { none = none_of_none; some = none_from_none }
