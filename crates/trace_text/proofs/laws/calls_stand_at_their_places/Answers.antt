use Rattle.trace_text.proofs.lemmas.CallPlaces.{calls_at_places}
use Rattle.trace_text.proofs.laws.calls_stand_at_their_places.Goals as goal

pub returns : goal.returns
returns c = calls_at_places
