-- How far a reader of a text has come, and what its answers say of the rest of the text.
use Rattle.std.specs.Prelude.{ℕ, List, Result, Ok, Err, ⊤}
use Rattle.log_dictionary.specs.declared.dictionary.LineFault.{LineFault}
use Rattle.log_dictionary.specs.declared.dictionary.LineFault.TheVariants as faults
use Rattle.trace_text.specs.declared.call_line.CallFault.{CallFault}
use Rattle.trace_text.specs.declared.call_line.CallFault.TheVariants as call_faults
use Rattle.trace_text.specs.declared.lines.Lines.{Lines}
use Rattle.trace_text.specs.declared.reading.TraceFault.{TraceFault}
use Rattle.trace_text.specs.declared.reading.TraceFault.TheVariants.{ReadFault, Refused, NoMemory}
use Rattle.trace_text.specs.declared.cause.TraceCause.TheVariants as causes
use Rattle.trace_text.specs.Recordings.{Recording}
use Rattle.trace_text.specs.Reading.{TracePart, Broken, Gives}

-- the part that was come to, the number of the next line, and the bytes from that line on
pub record TraceProgress : Type 0 where
  pub part : TracePart
  pub number : ℕ
  pub bytes : List ℕ

-- in this part, before these lines
abbrev pub progress : TracePart → Lines → TraceProgress
progress part lines = record { part = part; number = lines.number; bytes = lines.bytes.now }

-- what the text gives from there on
abbrev pub GivesFrom : TraceProgress → Result Recording Broken → Type 0
GivesFrom from outcome = Gives from.part from.number from.bytes outcome

-- what the text gives from the second on it gives from the first on
abbrev pub Leads : TraceProgress → TraceProgress → Type 0
Leads from to = (outcome : Result Recording Broken) → GivesFrom to outcome → GivesFrom from outcome

-- the text is refused so; want of memory says nothing of it, and no source failed
abbrev pub IsRefusal : TraceProgress → TraceFault → Type 0
IsRefusal from (Refused line cause) = GivesFrom from (Err (record { line = line; cause = cause }))
IsRefusal from NoMemory = ⊤
IsRefusal from ReadFault = ⊥

-- the answer of a reader that goes on from the first: with what it found it came to another
abbrev pub Comes : {A : Type 0} → TraceProgress → (A → TraceProgress) → Result A TraceFault → Type 0
Comes from to (Ok found) = Leads from (to found)
Comes from to (Err fault) = IsRefusal from fault

-- the answer of a reader that reads the rest of the text: the text gives the run
abbrev pub ReadsToEnd : TraceProgress → Result Recording TraceFault → Type 0
ReadsToEnd from (Ok run) = GivesFrom from (Ok run)
ReadsToEnd from (Err fault) = IsRefusal from fault

-- how a line of a message with this number is refused
abbrev pub message_fault : ℕ → LineFault → TraceFault
message_fault n faults.TooMany = Refused n causes.TooMany
message_fault n faults.BadEntry = Refused n causes.Message
message_fault n faults.Order = Refused n causes.Message
message_fault n faults.NoMemory = NoMemory

-- how a line of a call with this number is refused
abbrev pub call_fault : ℕ → CallFault → TraceFault
call_fault n (call_faults.Refused cause) = Refused n cause
call_fault n call_faults.NoMemory = NoMemory
