use Rattle.checkpoint_io.proofs.lemmas.BreakLaws.{cut_breaks, cut_alone}
use Rattle.checkpoint_io.proofs.lemmas.FileLaws.{cut_there}
use Rattle.checkpoint_io.proofs.laws.cut_bytes_break_by_cut_alone.Goals as goal

pub returns-clause-alone : goal.returns-clause-alone
returns-clause-alone c = cut_alone

pub returns-clause-there : goal.returns-clause-there
returns-clause-there c bytes offset other cause cut breaks = (cut_breaks bytes offset other cause cut breaks).0

pub returns-clause-front : goal.returns-clause-front
returns-clause-front c bytes header blocks offset cut begun = cut_there bytes header blocks offset begun cut
