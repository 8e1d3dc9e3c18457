use Rattle.checkpoint_io.proofs.lemmas.FrontLaws.{empty_file, file_goes_on}
use Rattle.checkpoint_io.proofs.laws.files_go_on.Goals as goal

pub returns-clause-empty : goal.returns-clause-empty
returns-clause-empty c = empty_file

pub returns-clause-more : goal.returns-clause-more
returns-clause-more c = file_goes_on
