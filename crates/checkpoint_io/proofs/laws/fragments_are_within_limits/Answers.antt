use Rattle.checkpoint_io.proofs.lemmas.LimitLaws.{fragment_within}
use Rattle.checkpoint_io.proofs.laws.fragments_are_within_limits.Goals as goal

pub returns-clause-right : goal.returns-clause-right
returns-clause-right c = fragment_within
