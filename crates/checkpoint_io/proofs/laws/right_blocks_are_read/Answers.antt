use Rattle.checkpoint_io.proofs.ReadingForms.{header_again, block_again}
use Rattle.checkpoint_io.proofs.laws.right_blocks_are_read.Goals as goal

pub returns : goal.returns
returns c = record { header = header_again; block = block_again }
