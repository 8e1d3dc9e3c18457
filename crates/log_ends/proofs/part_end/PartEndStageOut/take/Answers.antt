use Rattle.log_ends.proofs.PartFrames.{part_lawful}
use Rattle.log_ends.proofs.part_end.PartEndStageOut.take.Goals as goal

pub returns-clause-lawful : goal.returns-clause-lawful
returns-clause-lawful c = part_lawful c.take.result c.args.self.now.out.plan c.args.self.now.earlier c.take.new.self.got c.take.ensures.lawful
