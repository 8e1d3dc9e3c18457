use Rattle.ring_core.proofs.lemmas.Frames.{Lawful-front}
use Rattle.ring_core.proofs.laws.a_front_of_lawful_frames_is_lawful.Goals as goal

pub returns-clause-front : goal.returns-clause-front
returns-clause-front c = Lawful-front
