use Rattle.checkpoint_io.proofs.lemmas.ValidityLaws.{goes_on}
use Rattle.checkpoint_io.proofs.laws.logs_go_on.Goals as goal

pub returns-clause-more : goal.returns-clause-more
returns-clause-more c = goes_on
