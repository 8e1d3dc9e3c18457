use Rattle.checkpoint_io.proofs.lemmas.LogLaws.{laid_out_join}
use Rattle.checkpoint_io.proofs.laws.layouts_join.Goals as goal

pub returns : goal.returns
returns c = laid_out_join
