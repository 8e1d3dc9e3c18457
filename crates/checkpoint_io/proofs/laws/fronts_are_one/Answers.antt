use Rattle.checkpoint_io.proofs.lemmas.FrontLaws.{one_front}
use Rattle.checkpoint_io.proofs.laws.fronts_are_one.Goals as goal

pub returns : goal.returns
returns c = one_front
