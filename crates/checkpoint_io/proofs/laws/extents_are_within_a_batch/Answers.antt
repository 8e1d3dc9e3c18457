use Rattle.checkpoint_io.proofs.lemmas.LogLaws.{extents_within}
use Rattle.checkpoint_io.proofs.laws.extents_are_within_a_batch.Goals as goal

pub returns-clause-all : goal.returns-clause-all
returns-clause-all c = extents_within
