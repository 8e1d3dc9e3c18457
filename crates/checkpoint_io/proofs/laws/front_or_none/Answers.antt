use Rattle.checkpoint_io.proofs.lemmas.Wholeness.{front_or_none}
use Rattle.checkpoint_io.proofs.laws.front_or_none.Goals as goal

pub returns : goal.returns
returns c = front_or_none
