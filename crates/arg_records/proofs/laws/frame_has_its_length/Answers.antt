use Rattle.arg_records.proofs.lemmas.Lengths.{length-Frame}
use Rattle.arg_records.proofs.laws.frame_has_its_length.Goals as goal

pub returns : goal.returns
returns c = length-Frame
