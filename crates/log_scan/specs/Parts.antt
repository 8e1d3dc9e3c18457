-- Parts of a log, as they are read one block after the other.
use Rattle.std.specs.Prelude.{◌≡◌, ℕ, ◌≤◌, List, [], ◌∷◌, ◌++◌, length, Option, Some, None}
use Rattle.checkpoint_io.specs.declared.block.Block.{Block as ReadBlock}
use Rattle.checkpoint_io.specs.declared.header.Header.{Header}
use Rattle.checkpoint_io.specs.declared.heads.TheConstants.{MAX_LOG}
use Rattle.checkpoint_io.specs.Blocks.{Block, messages_of, FileOf}
use Rattle.checkpoint_io.specs.Validity.{Valid}
use Rattle.checkpoint_io.specs.NextBlocks.{Describes, HasBody}
use Rattle.checkpoint_io.specs.Readers.{ReaderState}

-- a header, and blocks behind it
pub record LogPart : Type 0 where
  pub header : Header
  pub blocks : List Block

abbrev pub header_alone : Header → LogPart
header_alone header = record { header = header; blocks = [] }

-- the part with this block behind it
abbrev pub with_block : LogPart → Block → LogPart
with_block part block = record { header = part.header; blocks = part.blocks ++ block ∷ [] }

-- the reader's header, and these blocks
abbrev pub log_part : ReaderState → List Block → LogPart
log_part reader blocks = record { header = reader.header; blocks = blocks }

-- the blocks of what was read of a file; without a header there are none
abbrev pub blocks_read : Option LogPart → List Block
blocks_read None = []
blocks_read (Some part) = part.blocks

-- Behind the part stands this block, of which this is told: together they are a log of no more bytes than are read, and
-- the reader has its header and the messages of all its blocks. It has the body of an extent too.
pub record StandsNext (part : LogPart) (reader : ReaderState) (told : ReadBlock) (block : Block) : Type 0 where
  pub tells : Describes told block
  pub header : reader.header ≡ part.header
  pub body : HasBody part.header.clock.tick reader.messages block reader.body
  pub bytes : List ℕ
  pub file : FileOf part.header (part.blocks ++ block ∷ []) bytes
  pub valid : Valid part.header (part.blocks ++ block ∷ [])
  pub within : length bytes ≤ MAX_LOG
  pub known : reader.messages ≡ messages_of (part.blocks ++ block ∷ [])
