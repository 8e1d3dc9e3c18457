-- What is answered of a log.
use Rattle.std.specs.Prelude.{◌≡◌, ℕ, ◌<◌, ◌≤◌, nat_lt, if◌then◌else◌, List, length, Option, None, Some, IfSome, Result, Ok, Err, ⊤}
use Rattle.nl_io.specs.Content.{Told}
use Rattle.log_dictionary.specs.declared.message.Message.{Message}
use Rattle.checkpoint_io.specs.Blocks.{Block, messages_of}
use Rattle.checkpoint_io.specs.Fronts.{BreaksByCutAlone}
use Rattle.checkpoint_io.specs.Places.{TookSuch}
use Rattle.log_scan.specs.declared.scan.ScanEnd.{ScanEnd}
use Rattle.log_scan.specs.declared.scan.ScanEnd.TheVariants as ends
use Rattle.log_scan.specs.Parts.{LogPart, blocks_read}
use Rattle.log_scan.specs.Scans.{IsWholeScan, IsDamagedScan}
use Rattle.aggregation.specs.declared.totals.Totals.{Totals}
use Rattle.aggregation.specs.declared.fault.AggregateFault.{AggregateFault}
use Rattle.aggregation.specs.declared.fault.AggregateFault.TheVariants.{ReadFault, Damaged, NoSuchMessage, NoSuchArgument, NoMemory}
use Rattle.aggregation.specs.Totals.{has_number, argument_totals, totals_in}

-- the answer of a whole log with these messages, whose records have these totals
abbrev pub answer_for : List Message → ℕ → ℕ → Totals → Result Totals AggregateFault
answer_for messages id nth totals =
    if has_number messages id nth then Ok totals
    else (if nat_lt id (length messages) then Err NoSuchArgument else Err NoSuchMessage)

-- the answer of a log of which these blocks were read, by how its scan ended
abbrev pub answer_at : List Block → ℕ → ℕ → ScanEnd → Result Totals AggregateFault
answer_at blocks id nth ends.Whole = answer_for (messages_of blocks) id nth (argument_totals blocks id nth)
answer_at blocks id nth (ends.Damaged offset cause) = Err (Damaged offset cause (totals_in blocks id nth))
answer_at blocks id nth ends.ReadFault = Err ReadFault

-- the bytes have this answer, which is none on reading or memory
abbrev pub HaveAnswer : ℕ → ℕ → Result Totals AggregateFault → List ℕ → Type 0
HaveAnswer id nth (Ok totals) bytes =
    (part : LogPart) × IsWholeScan bytes part × (totals_in part.blocks id nth ≡ Some totals)
HaveAnswer id nth (Err (Damaged offset cause front)) bytes =
    (part : Option LogPart) × IsDamagedScan bytes part offset cause × (totals_in (blocks_read part) id nth ≡ front)
HaveAnswer id nth (Err NoSuchMessage) bytes =
    (part : LogPart) × IsWholeScan bytes part × (length (messages_of part.blocks) ≤ id)
HaveAnswer id nth (Err NoSuchArgument) bytes =
    (part : LogPart) × IsWholeScan bytes part
    × (id < length (messages_of part.blocks)) × (totals_in part.blocks id nth ≡ None)
HaveAnswer id nth (Err ReadFault) bytes = ⊥
HaveAnswer id nth (Err NoMemory) bytes = ⊥

-- What the answer says of the bytes that the source had left before, and of what it has left behind.
abbrev pub AnswersTotals : Told → Told → ℕ → ℕ → Result Totals AggregateFault → Type 0
AnswersTotals left behind id nth (Err ReadFault) = TookSuch BreaksByCutAlone left behind
AnswersTotals left behind id nth (Err NoMemory) = ⊤
AnswersTotals left behind id nth answer = IfSome left (HaveAnswer id nth answer)
