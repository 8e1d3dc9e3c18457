-- What the command `decompress` does.
use Rattle.std.specs.Prelude.{◌≡◌, ℕ, List, [], ◌∷◌, ◌++◌, codes, None, Result, Ok, Err}
use Rattle.std.specs.Fmt.{decimal}
use Rattle.std.specs.List.{flat_map}
use Rattle.decompressor.specs.declared.report.Report.{Report}
use Rattle.decompressor.specs.declared.fault.DecodeFault.{DecodeFault}
use Rattle.decompressor.specs.declared.fault.DecodeFault.TheVariants as faults
use Rattle.decompressor.specs.Decompressing.{IsTextOfWhole, IsTextOfDamaged, IsTextOfCut, IsTextOfSettled}
use Rattle.command_base.specs.Endings.{Ending, Done, StillOpen, ReadFault, Damaged, WriteFault, NoMemory}
use Rattle.command_base.specs.HeldFiles.{HoldsSuch}
use Rattle.command_base.specs.Tasks.{Streaming, Task}
use Rattle.command_base.specs.Readings.{Form, Begun, printing_task}
use Rattle.command_base.specs.Words.{standard_output}
use Rattle.log_commands.specs.Logs.{log_cause, IsLog}

-- the numbers of writers, each behind a space
abbrev pub writers_text : List ℕ → List ℕ
writers_text writers = flat_map (λ writer. codes " " ++ decimal writer) writers

-- what is told where all was done: the writers of the log that are still open, if there are any
abbrev pub whole_ending : List ℕ → List ℕ → Ending
whole_ending log [] = Done
whole_ending log (writer ∷ writers) = StillOpen log (writers_text (writer ∷ writers))

-- the answer of a log as an end
abbrev pub log_ending : List ℕ → Result Report DecodeFault → Ending
log_ending log (Ok report) = whole_ending log report.unclosed
log_ending log (Err (faults.Damaged offset cause)) = Damaged log offset (log_cause cause)
log_ending log (Err faults.ReadFault) = ReadFault log
log_ending log (Err faults.WriteFault) = WriteFault standard_output
log_ending log (Err faults.NoMemory) = NoMemory

-- The bytes have this text and this answer: they are a whole log with these lines, or are damaged behind them.
abbrev pub HaveText : List ℕ → Result Report DecodeFault → List ℕ → Type 0
HaveText text (Ok report) bytes = IsTextOfWhole bytes text report
HaveText text (Err (faults.Damaged offset cause)) bytes = IsTextOfDamaged bytes text offset cause
HaveText text (Err faults.ReadFault) bytes = ⊥
HaveText text (Err faults.WriteFault) bytes = ⊥
HaveText text (Err faults.NoMemory) bytes = ⊥

-- what a log gives: its lines, up to where it is damaged, and what is told of it
abbrev pub GivesText : List ℕ → Form
GivesText log old product ending =
    (answer : Result Report DecodeFault) × (ending ≡ log_ending log answer) × (product.made ≡ None)
    × HoldsSuch old log (HaveText product.text answer)

-- where a read failed: the lines of those of its bytes that were taken before; where a write failed in the middle of the
-- log, or memory was wanting there: the lines that were settled before
abbrev pub BeginsText : List ℕ → Begun
BeginsText log (ReadFault name) old text =
    HoldsSuch old log (λ bytes. (taken : List ℕ) × (rest : List ℕ) × (bytes ≡ taken ++ rest) × IsTextOfCut taken text)
BeginsText log (WriteFault name) old text = HoldsSuch old log (λ bytes. IsTextOfSettled bytes text)
BeginsText log ending old text = ⊥

-- `decompress`: the lines of a log are printed
abbrev pub decompress_task : List ℕ → Task
decompress_task log = printing_task log Streaming (GivesText log) (BeginsText log) IsLog
