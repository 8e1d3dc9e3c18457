-- What a file gives that is to hold a trace, or the text of a dictionary.
use Rattle.std.specs.Prelude.{◌≡◌, ℕ, List, Option, Some, Result, IfSome, IsErrOf}
use Rattle.nl_io.specs.Count.{Rose}
use Rattle.nl_io.specs.Content.{Told}
use Rattle.nl_io.specs.Desk.{Desk}
use Rattle.log_dictionary.specs.declared.message.Message.{Message}
use Rattle.trace_text.specs.declared.cause.TraceCause.{TraceCause}
use Rattle.trace_text.specs.declared.reading.TraceFault.{TraceFault}
use Rattle.trace_text.specs.declared.reading.TraceFault.TheVariants as faults
use Rattle.trace_text.specs.Causes.{cause_number, cause_name}
use Rattle.trace_text.specs.Recordings.{Recording}
use Rattle.trace_text.specs.Traces.{TraceText}
use Rattle.trace_text.specs.Reading.{TraceBreak}
use Rattle.trace_text.specs.Dictionaries.{DictionaryText}
use Rattle.trace_text.specs.TraceReading.{IsAnswer}
use Rattle.command_base.specs.Endings.{ToldCause, Ending, ReadFault, Refused, NoMemory}
use Rattle.command_base.specs.HeldFiles.{HoldsSuch}
use Rattle.command_base.specs.Tasks.{Product, nothing}
use Rattle.command_base.specs.Readings.{Form, OnlyRefused, never, ReadsFile}

-- The bytes that the trace's name held spell the run, from the first to the last.
abbrev pub TraceRead : Desk → List ℕ → Recording → Type 0
TraceRead old trace run = HoldsSuch old trace (λ bytes. TraceText bytes run)

-- a cause as it is told
abbrev pub trace_cause : TraceCause → ToldCause
trace_cause cause = record { number = cause_number cause; name = cause_name cause }

-- The text that the name holds is refused at this line, for a cause that its bytes have, and nothing comes of it.
abbrev pub IsRefusedBy : (List ℕ → ℕ → TraceCause → Type 0) → List ℕ → Desk → Product → List ℕ → Option ℕ → ToldCause
    → Type 0
IsRefusedBy Breaks text old product name line cause =
    (name ≡ text) × (product ≡ nothing) × ((at : ℕ) × (why : TraceCause) × (line ≡ Some at) × (cause ≡ trace_cause why)
    × HoldsSuch old text (λ bytes. Breaks bytes at why))

-- it is refused, and nothing else is said
abbrev pub IsRefusedText : (List ℕ → ℕ → TraceCause → Type 0) → List ℕ → Form
IsRefusedText Breaks text = OnlyRefused (IsRefusedBy Breaks text)

-- Why a name gave no such text, where nothing comes of it: it isn't there, a read of it failed, memory was wanting, or it
-- is refused.
abbrev pub GivesNoText : (List ℕ → ℕ → TraceCause → Type 0) → List ℕ → Desk → Desk → Ending → Type 0
GivesNoText Breaks text old new ending = ReadsFile text (IsRefusedText Breaks text) never old new nothing ending

-- ---- traces

-- the same of a trace
abbrev pub IsRefusedAt : List ℕ → Desk → Product → List ℕ → Option ℕ → ToldCause → Type 0
IsRefusedAt = IsRefusedBy TraceBreak

abbrev pub IsRefusedTrace : List ℕ → Form
IsRefusedTrace = IsRefusedText TraceBreak

abbrev pub GivesNoTrace : List ℕ → Desk → Desk → Ending → Type 0
GivesNoTrace = GivesNoText TraceBreak

-- the bytes spell a run
abbrev pub IsTrace : List ℕ → Type 0
IsTrace bytes = (run : Recording) × TraceText bytes run

-- ---- texts of dictionaries

-- The bytes that the name held are the text of a dictionary with these messages.
abbrev pub DictionaryRead : Desk → List ℕ → List Message → Type 0
DictionaryRead old name messages = HoldsSuch old name (λ bytes. DictionaryText bytes messages)

-- ---- the answer of a reader

-- What the answer says of the bytes that were left of a file, and of its count of failed reads.
abbrev pub SaysOfTrace : Result Recording TraceFault → Told → ℕ → ℕ → Type 0
SaysOfTrace answer left before after =
    IfSome left (λ bytes. IsAnswer bytes answer)
    × (IsErrOf answer faults.ReadFault → Rose before after)
    × (¬ (IsErrOf answer faults.ReadFault) → after ≡ before)

-- why the name gave no trace, as an end
abbrev pub trace_fault_ending : List ℕ → TraceFault → Ending
trace_fault_ending name faults.ReadFault = ReadFault name
trace_fault_ending name (faults.Refused line cause) = Refused name (Some line) (trace_cause cause)
trace_fault_ending name faults.NoMemory = NoMemory
