-- What is counted of a log while it is read.
use Rattle.std.specs.Prelude.{◌≡◌, List, length}
use Rattle.checkpoint_io.specs.Blocks.{Block, messages_of}
use Rattle.aggregation.specs.declared.tally.Tally.{Tally}
use Rattle.aggregation.specs.Totals.{argument_totals, IsWithin}

-- the tally is that of these blocks
pub record IsTally (blocks : List Block) (tally : Tally) : Type 0 where
  pub defined : tally.defined ≡ length (messages_of blocks)
  pub totals : tally.totals ≡ argument_totals blocks tally.id tally.nth
  pub within : IsWithin tally.totals.count tally.totals.sum
