-- What the answer of a reader says of a line of a call.
use Rattle.std.specs.Prelude.{◌≡◌, ℕ, List, Result, Ok, Err, ⊤}
use Rattle.arg_records.specs.declared.call.Call.{Call}
use Rattle.trace_text.specs.declared.call_line.CallFault.{CallFault}
use Rattle.trace_text.specs.declared.call_line.CallFault.TheVariants.{Refused, NoMemory}
use Rattle.trace_text.specs.Recordings.{Recording}
use Rattle.trace_text.specs.CallReading.{call_at}

-- the line says the writer's call in the run, or is refused so; want of memory says nothing of it
abbrev pub ReadsCall : Recording → List ℕ → Result (ℕ × Call) CallFault → Type 0
ReadsCall run line (Ok (writer, call)) = call_at run line ≡ Ok (record { writer = writer; call = call })
ReadsCall run line (Err (Refused cause)) = call_at run line ≡ Err cause
ReadsCall run line (Err NoMemory) = ⊤
