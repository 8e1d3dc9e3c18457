use Rattle.aggregation.proofs.lemmas.TotalsLaws.{tells_whole, tells_front}
use Rattle.aggregation.proofs.laws.answers_tell_totals.Goals as goal

pub returns : goal.returns
returns c = record { whole = tells_whole; damaged = tells_front }
