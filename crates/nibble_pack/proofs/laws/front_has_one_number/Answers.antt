use Rattle.nibble_pack.proofs.lemmas.PackingLaws.{same_front}
use Rattle.nibble_pack.proofs.laws.front_has_one_number.Goals as goal

pub returns : goal.returns
returns c = same_front
