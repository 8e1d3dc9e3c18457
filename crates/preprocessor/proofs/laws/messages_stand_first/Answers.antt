use Rattle.preprocessor.proofs.lemmas.Told.{numbered_stand}
use Rattle.preprocessor.proofs.laws.messages_stand_first.Goals as goal

pub returns : goal.returns
returns c = numbered_stand
