use Rattle.checkpoint_io.proofs.lemmas.ValidityLaws.{writers_known, closed_for_good}
use Rattle.checkpoint_io.proofs.laws.closed_writers_write_no_more.Goals as goal

pub returns-clause-known : goal.returns-clause-known
returns-clause-known c = writers_known

pub returns-clause-closed : goal.returns-clause-closed
returns-clause-closed c = closed_for_good
