use Rattle.checkpoint_io.proofs.lemmas.FrontLaws.{whole_is_front}
use Rattle.checkpoint_io.proofs.laws.whole_files_are_fronts.Goals as goal

pub returns : goal.returns
returns c = whole_is_front
