use Rattle.std.proofs.Common.{refl}
use Rattle.std.specs.Fmt.{digits}
use Rattle.code_inject.proofs.laws.worked_header.Goals as goal

pub returns : goal.returns
unfolding digits
returns c = refl
