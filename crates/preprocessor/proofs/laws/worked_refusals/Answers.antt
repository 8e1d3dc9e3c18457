use Rattle.std.proofs.Common.{refl}
use Rattle.std.specs.Fmt.{digits}
use Rattle.preprocessor.proofs.laws.worked_refusals.Goals as goal

pub returns-clause-format : goal.returns-clause-format
unfolding digits
returns-clause-format c = refl

pub returns-clause-unclosed : goal.returns-clause-unclosed
unfolding digits
returns-clause-unclosed c = refl

pub returns-clause-too_large : goal.returns-clause-too_large
unfolding digits
returns-clause-too_large c = refl
