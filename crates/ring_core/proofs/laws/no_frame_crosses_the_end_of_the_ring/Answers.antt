use Rattle.ring_core.proofs.lemmas.Needs.{Need-inside}
use Rattle.ring_core.proofs.laws.no_frame_crosses_the_end_of_the_ring.Goals as goal

pub returns : goal.returns
returns c = Need-inside
