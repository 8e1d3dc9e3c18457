use Rattle.command_base.proofs.Sayings.{says_cut}
use Rattle.command_base.proofs.report.say_pieces.Goals as goal

pub returns-clause-said : goal.returns-clause-said
returns-clause-said g c = says_cut c.put_pieces.result _ _ _ _ _ c.put_pieces.ensures.ok c.put_pieces.ensures.counted c.put_pieces.ensures.cut_off
