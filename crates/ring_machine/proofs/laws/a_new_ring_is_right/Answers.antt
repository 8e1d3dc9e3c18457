use Rattle.ring_machine.proofs.lemmas.StepLaws.{RingOk-new}
use Rattle.ring_machine.proofs.laws.a_new_ring_is_right.Goals as goal

pub returns : goal.returns
returns c = RingOk-new
