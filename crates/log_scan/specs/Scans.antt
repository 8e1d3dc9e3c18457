-- What is read of a file, which is a part of a log, or nothing where there is no header; and how a scan of it ends.
use Rattle.std.specs.Prelude.{◌≡◌, ℕ, ◌<◌, ◌≤◌, List, [], ◌∷◌, ◌++◌, length, Option, Some, None, IfSome, ⊤}
use Rattle.nl_io.specs.Content.{Told}
use Rattle.log_dictionary.specs.declared.message.Message.{Message}
use Rattle.checkpoint_io.specs.declared.cause.Cause.{Cause}
use Rattle.checkpoint_io.specs.declared.fault.BlockFault.{BlockFault}
use Rattle.checkpoint_io.specs.declared.fault.BlockFault.TheVariants as reading
use Rattle.checkpoint_io.specs.declared.heads.TheConstants.{MAX_LOG}
use Rattle.checkpoint_io.specs.Blocks.{Block, messages_of}
use Rattle.checkpoint_io.specs.Validity.{Valid}
use Rattle.checkpoint_io.specs.Fronts.{BeginsWithLog, Front, HasNoHeader, Break, BreaksByCutAlone}
use Rattle.checkpoint_io.specs.Places.{TookSuch}
use Rattle.checkpoint_io.specs.NextBlocks.{StopsAt}
use Rattle.checkpoint_io.specs.Readers.{ReaderState, StandsFor}
use Rattle.log_scan.specs.declared.scan.ScanEnd.{ScanEnd}
use Rattle.log_scan.specs.declared.scan.ScanEnd.TheVariants.{Whole, Damaged, ReadFault}
use Rattle.log_scan.specs.declared.scan.Scan.{Scan}
use Rattle.log_scan.specs.Parts.{LogPart}

-- ---- what is read of a file

-- the bytes begin with the part, which ends at this offset, within the most bytes that are read; nothing ends at 0
abbrev pub BeginsWithin : List ℕ → Option LogPart → ℕ → Type 0
BeginsWithin bytes None offset = offset ≡ 0
BeginsWithin bytes (Some part) offset = BeginsWithLog bytes part.header part.blocks offset × (offset ≤ MAX_LOG)

-- The part has all blocks of the front that end within the most bytes that are read: it is the whole front, or what
-- stands in front of the first block that ends past them. It ends at this offset.
pub data IsPartWithin (bytes : List ℕ) (part : LogPart) (offset : ℕ) : Type 0 where
  of_front : Front bytes part.header part.blocks offset → offset ≤ MAX_LOG → IsPartWithin bytes part offset
  of_part : (block : Block) (count : ℕ)
      → BeginsWithLog bytes part.header part.blocks offset
      → offset ≤ MAX_LOG
      → BeginsWithLog bytes part.header (part.blocks ++ block ∷ []) count
      → MAX_LOG < count
      → IsPartWithin bytes part offset

-- this is all that is read of the bytes, and ends at this offset; without a header nothing is
abbrev pub IsFrontWithin : List ℕ → Option LogPart → ℕ → Type 0
IsFrontWithin bytes None offset = HasNoHeader bytes × (offset ≡ 0)
IsFrontWithin bytes (Some part) offset = IsPartWithin bytes part offset

-- this is the front of the bytes, however long it is
abbrev pub HasFront : List ℕ → Option LogPart → Type 0
HasFront bytes None = HasNoHeader bytes
HasFront bytes (Some part) = (count : ℕ) × Front bytes part.header part.blocks count

-- ---- how a scan ends

-- the bytes are this log from the first to the last
pub record IsWholeScan (bytes : List ℕ) (part : LogPart) : Type 0 where
  pub within : length bytes ≤ MAX_LOG
  pub unbroken : (offset : ℕ) (cause : Cause) → ¬ (Break bytes offset cause)
  pub front : Front bytes part.header part.blocks (length bytes)

-- The bytes break at this offset, or the block there ends past the most bytes that are read, and this is what stands in
-- front of it. Where the bytes aren't more, they break there, and this is their front.
pub record IsDamagedScan (bytes : List ℕ) (part : Option LogPart) (offset : ℕ) (cause : Cause) : Type 0 where
  pub stops : StopsAt bytes offset cause
  pub before : IsFrontWithin bytes part offset
  pub breaks : length bytes ≤ MAX_LOG → Break bytes offset cause
  pub all : length bytes ≤ MAX_LOG → HasFront bytes part

-- The bytes break nowhere, or by Cut alone, and this is their front, which ends within the most bytes that are read.
pub record IsCutScan (bytes : List ℕ) (part : Option LogPart) : Type 0 where
  pub alone : BreaksByCutAlone bytes
  pub all : HasFront bytes part
  pub offset : ℕ
  pub begins : BeginsWithin bytes part offset

abbrev pub EndsWhole : List ℕ → Option LogPart → Type 0
EndsWhole bytes None = ⊥
EndsWhole bytes (Some part) = IsWholeScan bytes part

-- What each end says of the file, and of what was read of it. A failed read says it of the bytes that were taken,
-- behind which stands what the source has left.
abbrev pub EndsScan : Told → Told → Option LogPart → ScanEnd → Type 0
EndsScan file left part Whole = IfSome file (λ bytes. EndsWhole bytes part)
EndsScan file left part (Damaged offset cause) = IfSome file (λ bytes. IsDamagedScan bytes part offset cause)
EndsScan file left part ReadFault = TookSuch (λ bytes. IsCutScan bytes part) file left

-- ---- what is known of a file

-- The reader has the header of the part, which is right, and the messages of its blocks, and maybe some of a block that
-- broke.
pub record ReaderKnows (reader : ReaderState) (part : LogPart) : Type 0 where
  pub header : reader.header ≡ part.header
  pub valid : Valid part.header part.blocks
  pub others : List Message
  pub known : reader.messages ≡ messages_of part.blocks ++ others

-- without a header there is no reader
abbrev pub IsReaderOf : Option ReaderState → Option LogPart → Type 0
IsReaderOf None None = ⊤
IsReaderOf None (Some part) = ⊥
IsReaderOf (Some reader) None = ⊥
IsReaderOf (Some reader) (Some part) = ReaderKnows reader part

-- the reader stands for the whole part
abbrev pub StandsForAll : Option ReaderState → Option LogPart → Type 0
StandsForAll None part = ⊥
StandsForAll (Some reader) None = ⊥
StandsForAll (Some reader) (Some part) = (taken : List ℕ) × (read : StandsFor reader taken) × (read.blocks ≡ part.blocks)

-- the reader's log, and how its scan ended
abbrev pub scan_of : ScanEnd → ReaderState → Scan
scan_of end reader = record { end = end; reader = Some reader }

-- The file was scanned, of which this is left: the fold has what was read of it.
pub record Scans {V : Type 0} (has : V → Option LogPart → Type 0) (file left : Told) (fold : V)
    (scan : Scan) : Type 0 where
  pub part : Option LogPart
  pub folded : has fold part
  pub read : IsReaderOf scan.reader part
  pub ends : EndsScan file left part scan.end
  pub whole : scan.end ≡ Whole → StandsForAll scan.reader part

-- how a scan ends where no header was read
abbrev pub EndsAtHeader : BlockFault → ScanEnd → Type 0
EndsAtHeader (reading.Damaged cause) end = end ≡ Damaged 0 cause
EndsAtHeader reading.ReadFault end = end ≡ ReadFault
EndsAtHeader reading.NoMemory end = ⊥
