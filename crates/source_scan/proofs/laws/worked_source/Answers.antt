use Rattle.source_scan.proofs.WorkedSource.{worked}
use Rattle.source_scan.proofs.laws.worked_source.Goals as goal

pub returns : goal.returns
returns c = worked
