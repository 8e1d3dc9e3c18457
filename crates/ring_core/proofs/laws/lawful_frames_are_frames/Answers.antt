use Rattle.ring_core.proofs.lemmas.Frames.{Lawful-frames, Lawful-lengths}
use Rattle.ring_core.proofs.laws.lawful_frames_are_frames.Goals as goal

pub returns-clause-frames : goal.returns-clause-frames
returns-clause-frames c = Lawful-frames

pub returns-clause-lengths : goal.returns-clause-lengths
returns-clause-lengths c = Lawful-lengths
