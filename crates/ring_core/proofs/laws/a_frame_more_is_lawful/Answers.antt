use Rattle.ring_core.proofs.lemmas.Frames.{AreFramesOf-push, Lawful-last}
use Rattle.ring_core.proofs.laws.a_frame_more_is_lawful.Goals as goal

pub returns-clause-more : goal.returns-clause-more
returns-clause-more c = AreFramesOf-push

pub returns-clause-last : goal.returns-clause-last
returns-clause-last c = Lawful-last
