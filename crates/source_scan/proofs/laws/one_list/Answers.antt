use Rattle.source_scan.proofs.lemmas.Unique.{statements_once}
use Rattle.source_scan.proofs.laws.one_list.Goals as goal

pub returns : goal.returns
returns c = statements_once
