use Rattle.roaming_consumer.proofs.lemmas.Marking.{closed_log}
use Rattle.roaming_consumer.proofs.laws.marks_stand_in_the_log.Goals as goal

pub returns : goal.returns
returns g c = closed_log g.S.StageOut.got g.S.StageOut.ended
