use Rattle.schedule_text.proofs.lemmas.Deciding.{front_decides}
use Rattle.schedule_text.proofs.laws.long_texts_are_decided.Goals as goal

pub returns : goal.returns
returns c = front_decides
