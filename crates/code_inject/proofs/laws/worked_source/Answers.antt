use Rattle.code_inject.proofs.Worked.{worked}
use Rattle.code_inject.proofs.laws.worked_source.Goals as goal

pub returns : goal.returns
returns c = worked
