-- The front of a file: as much of it as is a log; and where and why a file goes on as no log.
use Rattle.std.specs.Prelude.{◌≡◌, ◌⊎◌, ℕ, ◌≤◌, List, ◌++◌, length, Err}
use Rattle.checkpoint_io.specs.declared.cause.Cause.{Cause}
use Rattle.checkpoint_io.specs.declared.cause.Cause.TheVariants as causes
use Rattle.checkpoint_io.specs.declared.header.Header.{Header}
use Rattle.checkpoint_io.specs.Blocks.{Block, FileOf}
use Rattle.checkpoint_io.specs.Validity.{Valid}
use Rattle.checkpoint_io.specs.Reading.{header_at, block_at}

-- the bytes begin with a log of this header and these blocks, which takes so many bytes
pub record BeginsWithLog (bytes : List ℕ) (header : Header) (blocks : List Block) (count : ℕ) : Type 0 where
  pub prefix : List ℕ
  pub rest : List ℕ
  pub whole : bytes ≡ prefix ++ rest
  pub taken : count ≡ length prefix
  pub file : FileOf header blocks prefix
  pub valid : Valid header blocks

-- the header, and the longest list of blocks with which the bytes begin
pub record Front (bytes : List ℕ) (header : Header) (blocks : List Block) (count : ℕ) : Type 0 where
  pub begins : BeginsWithLog bytes header blocks count
  pub longest : (others : List Block) (less : ℕ) → BeginsWithLog bytes header others less
      → length others ≤ length blocks

-- the bytes begin with no header of a log, so that the front is empty
abbrev pub HasNoHeader : List ℕ → Type 0
HasNoHeader bytes = (header : Header) (blocks : List Block) (count : ℕ) → ¬ (BeginsWithLog bytes header blocks count)

-- The file is broken at this offset, from this cause: it has no right header, or bytes stand behind its header and its
-- blocks, which are right, and are no right block.
pub data Break (bytes : List ℕ) : ℕ → Cause → Type 0 where
  at_header : (cause : Cause) → header_at bytes ≡ Err cause → Break bytes 0 cause
  at_block : (header : Header) (blocks : List Block) (front rest : List ℕ) (cause : Cause)
      → bytes ≡ front ++ rest
      → FileOf header blocks front
      → Valid header blocks
      → 1 ≤ length rest
      → block_at header blocks rest ≡ Err cause
      → Break bytes (length front) cause

-- the bytes break nowhere, or by Cut alone
abbrev pub BreaksByCutAlone : List ℕ → Type 0
BreaksByCutAlone bytes = (offset : ℕ) (cause : Cause) → Break bytes offset cause → cause ≡ causes.Cut

-- The bytes are a log up to this offset, and end there, or inside the block that stands there; or they end inside the
-- header, and the offset is 0.
abbrev pub IsCutAt : List ℕ → ℕ → Type 0
IsCutAt bytes offset =
    Break bytes offset causes.Cut
    ⊎ ((header : Header) × (blocks : List Block) × FileOf header blocks bytes × Valid header blocks
    × (offset ≡ length bytes))
