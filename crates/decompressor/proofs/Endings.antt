-- What the text says of the bytes of which it was read.
use Rattle.std.proofs.Common.{◌≡◌, ℕ, List, length, Option, Some, None, refl}
use Rattle.checkpoint_io.specs.declared.cause.Cause.{Cause}
use Rattle.log_scan.specs.Parts.{LogPart}
use Rattle.log_scan.specs.Scans.{HasFront, IsWholeScan, IsDamagedScan, IsCutScan}
use Rattle.decompressor.specs.declared.report.Report.{Report}
use Rattle.decompressor.specs.Decompression.{all_calls, Decompressed, of_front, of_nothing}
use Rattle.decompressor.specs.Decompressing.{text_read, IsTextOfWhole, IsTextOfDamaged, IsTextOfCut}
use Rattle.decompressor.specs.Settling.{open_writers}

decompressed_read : (bytes : List ℕ) (part : Option LogPart) → HasFront bytes part → Decompressed bytes (text_read part)
decompressed_read bytes None none = of_nothing none refl
decompressed_read bytes (Some part) (count, front) = of_front part.header part.blocks count front refl

pub text_of_whole : (bytes : List ℕ) (part : LogPart) (report : Report) → IsWholeScan bytes part → report.lines ≡ length (all_calls part.header part.blocks) → report.unclosed ≡ open_writers part.header part.blocks → IsTextOfWhole bytes (text_read (Some part)) report
text_of_whole bytes part report whole lines unclosed = record {
  part = part;
  scanned = whole;
  decompressed = of_front part.header part.blocks (length bytes) whole.front refl;
  lines = lines;
  unclosed = unclosed;
}

pub text_of_damaged : (bytes : List ℕ) (part : Option LogPart) (offset : ℕ) (cause : Cause) → IsDamagedScan bytes part offset cause → IsTextOfDamaged bytes (text_read part) offset cause
text_of_damaged bytes part offset cause damaged = record { part = part; scanned = damaged; text_is = refl; decompressed = λ short. decompressed_read bytes part (damaged.all short) }

pub text_of_cut : (bytes : List ℕ) (part : Option LogPart) → IsCutScan bytes part → IsTextOfCut bytes (text_read part)
text_of_cut bytes part cut = record { part = part; scanned = cut; text_is = refl; decompressed = decompressed_read bytes part cut.all }
