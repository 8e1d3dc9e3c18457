use Rattle.ring_core.proofs.lemmas.OneReading.{joined-front}
use Rattle.ring_core.proofs.laws.joined_frames_begin_alike.Goals as goal

pub returns : goal.returns
returns c = joined-front
