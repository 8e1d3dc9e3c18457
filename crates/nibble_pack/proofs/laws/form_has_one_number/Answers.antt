use Rattle.nibble_pack.proofs.lemmas.PackingLaws.{same_value}
use Rattle.nibble_pack.proofs.laws.form_has_one_number.Goals as goal

pub returns : goal.returns
returns c = same_value
