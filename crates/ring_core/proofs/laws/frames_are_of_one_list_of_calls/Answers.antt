use Rattle.ring_core.proofs.lemmas.OneReading.{AreFramesOf-unique}
use Rattle.ring_core.proofs.laws.frames_are_of_one_list_of_calls.Goals as goal

pub returns : goal.returns
returns c = AreFramesOf-unique
