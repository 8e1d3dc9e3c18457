use Rattle.ring_core.proofs.lemmas.Needs.{position_from-push}
use Rattle.ring_core.proofs.laws.a_call_moves_the_position.Goals as goal

pub returns-clause-more : goal.returns-clause-more
returns-clause-more c = position_from-push 0
