use Rattle.nibble_pack.proofs.lemmas.Steady.{front_is_cut}
use Rattle.checkpoint_io.specs.declared.cause.Cause.TheVariants.{Cut}
use Rattle.checkpoint_io.specs.Reading.{header_at, block_at}
use Rattle.checkpoint_io.proofs.ReadingForms.{steady_header, steady_block}
use Rattle.checkpoint_io.proofs.laws.more_bytes_change_nothing.Goals as goal

pub returns : goal.returns
returns c = record {
  header = steady_header;
  block = steady_block;
  front_of_header = λ front rest behind header read less. front_is_cut Cut header_at front rest header behind steady_header read less;
  front_of_block = λ header before front rest behind block read less. front_is_cut Cut (block_at header before) front rest block behind (steady_block header before) read less;
}
