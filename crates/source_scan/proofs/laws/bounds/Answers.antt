use Rattle.std.proofs.Common.{refl, arith}
use Rattle.source_scan.proofs.LineBounds.{line-bound}
use Rattle.source_scan.proofs.Rises.{significant-rise}
use Rattle.source_scan.proofs.laws.bounds.Goals as goal

pub returns-clause-line : goal.returns-clause-line
returns-clause-line c = line-bound

pub returns-clause-tokens : goal.returns-clause-tokens
returns-clause-tokens c = λ source parts are. significant-rise source parts _ _ are refl (omega arith)
