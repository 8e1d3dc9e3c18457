use Rattle.checkpoint_io.proofs.lemmas.FrontLaws.{cut_is_front}
use Rattle.checkpoint_io.proofs.laws.fronts_end_where_no_block_goes_on.Goals as goal

pub returns : goal.returns
returns c = cut_is_front
