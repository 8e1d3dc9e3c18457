use Rattle.source_scan.proofs.Spans.{are_all}
use Rattle.source_scan.proofs.laws.all_statements.Goals as goal

pub returns : goal.returns
returns c = are_all
