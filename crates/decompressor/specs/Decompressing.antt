-- How the decompression of a log ends: which lines were printed, and what is told of the log.
use Rattle.std.specs.Prelude.{◌≡◌, ◌≢◌, ◌⊎◌, ℕ, ◌≤◌, List, [], length, Option, Some, None, IfSome, Result, Ok, Err}
use Rattle.nl_io.specs.Count.{Rose}
use Rattle.nl_io.specs.Content.{Told, with_end, PutsFront}
use Rattle.checkpoint_io.specs.declared.cause.Cause.{Cause}
use Rattle.checkpoint_io.specs.declared.fault.BlockFault.{BlockFault}
use Rattle.checkpoint_io.specs.declared.fault.BlockFault.TheVariants as reading
use Rattle.checkpoint_io.specs.declared.heads.TheConstants.{MAX_LOG}
use Rattle.checkpoint_io.specs.Places.{TookSuch}
use Rattle.log_scan.specs.Parts.{LogPart}
use Rattle.log_scan.specs.Scans.{BeginsWithin, IsWholeScan, IsDamagedScan, IsCutScan}
use Rattle.decompressor.specs.declared.report.Report.{Report}
use Rattle.decompressor.specs.declared.fault.DecodeFault.{DecodeFault}
use Rattle.decompressor.specs.declared.fault.DecodeFault.TheVariants.{WriteFault, Damaged, ReadFault, NoMemory}
use Rattle.decompressor.specs.Decompression.{all_calls, whole_text, Decompressed}
use Rattle.decompressor.specs.Settling.{open_writers, settled_text}

-- ---- the text of a part of a file

-- the lines of the calls of what was read of a file; without a header there are none
abbrev pub text_read : Option LogPart → List ℕ
text_read None = []
text_read (Some part) = whole_text part.header part.blocks

-- ---- how reading ends

-- The bytes are a log from the first to the last, the text is its lines, and the report says how many they are, and who
-- was not closed.
pub record IsTextOfWhole (bytes text : List ℕ) (report : Report) : Type 0 where
  pub part : LogPart
  pub scanned : IsWholeScan bytes part
  pub decompressed : Decompressed bytes text
  pub lines : report.lines ≡ length (all_calls part.header part.blocks)
  pub unclosed : report.unclosed ≡ open_writers part.header part.blocks

-- The bytes break at this offset, or the block there ends past the most bytes that are read, and the text is the lines
-- of the blocks in front of it. Where the bytes aren't more, they break there, and these are all their lines.
pub record IsTextOfDamaged (bytes text : List ℕ) (offset : ℕ) (cause : Cause) : Type 0 where
  pub part : Option LogPart
  pub scanned : IsDamagedScan bytes part offset cause
  pub text_is : text ≡ text_read part
  pub decompressed : length bytes ≤ MAX_LOG → Decompressed bytes text

-- The bytes break nowhere, or by Cut alone, and the text is their lines.
pub record IsTextOfCut (bytes text : List ℕ) : Type 0 where
  pub part : Option LogPart
  pub scanned : IsCutScan bytes part
  pub text_is : text ≡ text_read part
  pub decompressed : Decompressed bytes text

-- The text is the lines of the calls that are settled by whole blocks with which the bytes begin, within the most bytes
-- that are read. Whatever stands behind these blocks, the lines of the bytes begin with the text.
pub record IsTextOfSettled (bytes text : List ℕ) : Type 0 where
  pub part : LogPart
  pub offset : ℕ
  pub begins : BeginsWithin bytes (Some part) offset
  pub text_is : text ≡ settled_text part.header part.blocks

-- How the reading ended whose text this is, as it is answered where all of the text goes out. The count of faults rose
-- only where a read failed. The text is that of the bytes that were taken then, behind which stands what is left. A
-- failed write and want of memory end the reading in front of its end.
abbrev pub ReadsText : Told → Told → ℕ → ℕ → List ℕ → Result Report DecodeFault → Type 0
ReadsText left behind before after text (Ok report) =
    (after ≡ before) × IfSome left (λ bytes. IsTextOfWhole bytes text report)
ReadsText left behind before after text (Err (Damaged offset cause)) =
    (after ≡ before) × IfSome left (λ bytes. IsTextOfDamaged bytes text offset cause)
ReadsText left behind before after text (Err ReadFault) =
    Rose before after × TookSuch (λ bytes. IsTextOfCut bytes text) left behind
ReadsText left behind before after text (Err WriteFault) =
    (after ≡ before) × IfSome left (λ bytes. IsTextOfSettled bytes text)
ReadsText left behind before after text (Err NoMemory) =
    (after ≡ before) × IfSome left (λ bytes. IsTextOfSettled bytes text)

-- a front of the text of what was read went out, however far the reading came
pub record CutOff (left behind : Told) (before after : ℕ) (was is : Told) : Type 0 where
  pub text : List ℕ
  pub read : Result Report DecodeFault
  pub put : PutsFront text was is
  pub reads : ReadsText left behind before after text read

-- ---- the answer

-- the fault of a log whose header can't be read
abbrev pub header_fault : BlockFault → DecodeFault
header_fault (reading.Damaged cause) = Damaged 0 cause
header_fault reading.ReadFault = ReadFault
header_fault reading.NoMemory = NoMemory

-- What the answer says of the bytes that the source had left before and has behind, of its count of faults before and
-- after, and of what was put. A write fails only where there is something to print.
abbrev pub Decompresses : Told → Told → ℕ → ℕ → Told → Told → Result Report DecodeFault → Type 0
Decompresses left behind before after was is (Err WriteFault) =
    (cut : CutOff left behind before after was is) × (cut.text ≢ [])
Decompresses left behind before after was is (Err NoMemory) =
    ((is ≡ was) × (after ≡ before)) ⊎ CutOff left behind before after was is
Decompresses left behind before after was is answer =
    (text : List ℕ) × (is ≡ with_end text was) × ReadsText left behind before after text answer
