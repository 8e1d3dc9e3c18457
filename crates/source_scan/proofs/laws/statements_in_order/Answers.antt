use Rattle.source_scan.proofs.lemmas.Order.{statements_stand}
use Rattle.source_scan.proofs.laws.statements_in_order.Goals as goal

pub returns : goal.returns
returns c = statements_stand
