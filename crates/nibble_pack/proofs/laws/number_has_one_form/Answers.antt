use Rattle.nibble_pack.proofs.lemmas.PackingLaws.{same_pair}
use Rattle.nibble_pack.proofs.laws.number_has_one_form.Goals as goal

pub returns : goal.returns
returns c = same_pair
