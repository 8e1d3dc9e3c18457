use Rattle.command_base.proofs.Sayings.{says}
use Rattle.command_base.proofs.report.say_lines.Goals as goal

pub returns-clause-said : goal.returns-clause-said
returns-clause-said g c = says c.write_all.result _ _ _ _ _ c.write_all.ensures.ok c.write_all.ensures.counted c.write_all.ensures.err c.write_all.ensures.cause
