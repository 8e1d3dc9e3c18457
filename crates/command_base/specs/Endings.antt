-- How a command ends: all of it is done, or why it isn't.
use Rattle.std.specs.Prelude.{◌≡◌, ℕ, List, Option, Result, Ok, Err}
use Rattle.std.specs.String.{string_bytes}
use Rattle.command_base.specs.declared.status.Status.{Status}
use Rattle.command_base.specs.declared.status.Status.TheVariants as statuses
use Rattle.command_base.specs.declared.refusal.ToldCause.{ToldCause as Cause}
use Rattle.command_base.specs.declared.refusal.Refusal.{Refusal}
use Rattle.command_base.specs.declared.refusal.Refusal.TheVariants as refusals
use Rattle.command_base.specs.declared.note.Note.{Note}
use Rattle.command_base.specs.declared.note.Note.TheVariants as notes

-- a cause as it is told: by its number and its name
pub record ToldCause : Type 0 where
  pub number : ℕ
  pub name : List ℕ

-- An end, with the name that it tells of. Words that are no command are answered with the lines on how one is written.
-- What a file holds is refused for a cause, at a line of it where one is told,
-- which is 0 where the whole file is meant; sources are refused with the lines on all that is refused; a log is damaged
-- at an offset for a cause. Where all was done, but writers of a log are still open, their numbers are told.
pub data Ending : Type 0 where
  Done : Ending
  StillOpen : (name numbers : List ℕ) → Ending
  Usage : (lines : List ℕ) → Ending
  Absent : (name : List ℕ) → Ending
  ReadFault : (name : List ℕ) → Ending
  Refused : (name : List ℕ) (line : Option ℕ) (cause : ToldCause) → Ending
  RefusedSources : (lines : List ℕ) → Ending
  Damaged : (name : List ℕ) (offset : ℕ) (cause : ToldCause) → Ending
  WriteFault : (name : List ℕ) → Ending
  NoMemory : Ending

-- the status that goes with it
abbrev pub status_of : Ending → Status
status_of Done = statuses.Done
status_of (StillOpen name numbers) = statuses.Done
status_of (Usage lines) = statuses.Usage
status_of (Absent name) = statuses.Absent
status_of (ReadFault name) = statuses.ReadFault
status_of (Refused name line cause) = statuses.Refused
status_of (RefusedSources lines) = statuses.Refused
status_of (Damaged name offset cause) = statuses.Damaged
status_of (WriteFault name) = statuses.WriteFault
status_of NoMemory = statuses.NoMemory

-- all was done
abbrev pub IsDone : Ending → Type 0
IsDone ending = status_of ending ≡ statuses.Done

-- a cause as the program tells it
abbrev pub told_cause : Cause → ToldCause
told_cause cause = record { number = cause.number; name = cause.name.now }

-- a refusal as an end
abbrev pub refusal_ending : Refusal → Ending
refusal_ending (refusals.Usage lines) = Usage lines.items
refusal_ending (refusals.Absent name) = Absent name.now
refusal_ending (refusals.ReadFault name) = ReadFault name.now
refusal_ending (refusals.Refused name line cause) = Refused name.now line (told_cause cause)
refusal_ending (refusals.RefusedSources lines) = RefusedSources lines.items
refusal_ending (refusals.Damaged name offset cause) = Damaged name.now offset (told_cause cause)
refusal_ending (refusals.WriteFault name) = WriteFault name.now
refusal_ending refusals.NoMemory = NoMemory

-- what a call answers, as an end
abbrev pub ending_of : {T : Type 0} → Result T Refusal → Ending
ending_of (Ok x) = Done
ending_of (Err refusal) = refusal_ending refusal

-- a command that was done, with what is said beside its text, as an end
abbrev pub note_ending : Note → Ending
note_ending notes.Nothing = Done
note_ending (notes.StillOpen log numbers) = StillOpen log.now (string_bytes numbers)

-- what a command answers, as an end
abbrev pub answer_ending : Result Note Refusal → Ending
answer_ending (Ok note) = note_ending note
answer_ending (Err refusal) = refusal_ending refusal
