use Rattle.std.proofs.Common.{refl}
use Rattle.std.specs.Fmt.{digits}
use Rattle.preprocessor.proofs.laws.causes_have_numbers_and_names.Goals as goal

pub returns-clause-severity : goal.returns-clause-severity
unfolding digits
returns-clause-severity c = refl

pub returns-clause-literal : goal.returns-clause-literal
unfolding digits
returns-clause-literal c = refl

pub returns-clause-format : goal.returns-clause-format
unfolding digits
returns-clause-format c why place = refl

pub returns-clause-few : goal.returns-clause-few
unfolding digits
returns-clause-few c = refl

pub returns-clause-unclosed : goal.returns-clause-unclosed
unfolding digits
returns-clause-unclosed c = refl

pub returns-clause-file : goal.returns-clause-file
unfolding digits
returns-clause-file c = refl

pub returns-clause-large : goal.returns-clause-large
unfolding digits
returns-clause-large c = refl

pub returns-clause-many : goal.returns-clause-many
unfolding digits
returns-clause-many c = refl

pub returns-clause-unknown : goal.returns-clause-unknown
unfolding digits
returns-clause-unknown c = refl
