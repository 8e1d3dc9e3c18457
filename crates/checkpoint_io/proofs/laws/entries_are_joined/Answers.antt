use Rattle.checkpoint_io.proofs.lemmas.LimitLaws.{entry_joined}
use Rattle.checkpoint_io.proofs.laws.entries_are_joined.Goals as goal

pub returns-clause-more : goal.returns-clause-more
returns-clause-more c = entry_joined
