use Rattle.checkpoint_io.proofs.ReadingForms.{one_block}
use Rattle.checkpoint_io.proofs.laws.blocks_are_read_one_way.Goals as goal

pub returns : goal.returns
returns c = one_block
