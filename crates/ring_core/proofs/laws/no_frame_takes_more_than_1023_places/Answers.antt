use Rattle.ring_core.proofs.lemmas.Needs.{Need-most}
use Rattle.ring_core.proofs.laws.no_frame_takes_more_than_1023_places.Goals as goal

pub returns : goal.returns
returns c = Need-most
