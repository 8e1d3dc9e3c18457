use Rattle.aggregation.proofs.lemmas.TotalsLaws.{one_answer}
use Rattle.aggregation.proofs.laws.whole_logs_have_one_answer.Goals as goal

pub returns : goal.returns
returns c header blocks bytes id nth answer file valid short have = one_answer header blocks bytes id nth file valid short answer have
