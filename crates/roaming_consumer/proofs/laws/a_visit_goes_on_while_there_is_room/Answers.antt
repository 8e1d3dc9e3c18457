use Rattle.roaming_consumer.proofs.Stopping.{goes_on_while_room}
use Rattle.roaming_consumer.proofs.laws.a_visit_goes_on_while_there_is_room.Goals as goal

pub returns : goal.returns
returns g c = goes_on_while_room g.S.StageOut.got g.S.StageOut.ended g.S.StageOut.loads
