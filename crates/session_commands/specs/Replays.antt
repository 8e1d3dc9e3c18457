-- What the command `replay` does.
use Rattle.std.specs.Prelude.{◌≡◌, ◌⊎◌, ◌*◌, ◌≤◌, ℕ, List, [], length, codes, Option, Some}
use Rattle.nl_io.specs.Count.{Rose}
use Rattle.nl_io.specs.Desk.{Desk, found_in}
use Rattle.session_options.specs.declared.limits.TheConstants.{MAX_SESSION_WORDS}
use Rattle.trace_text.specs.Recordings.{Recording}
use Rattle.trace_text.specs.Traces.{TraceText}
use Rattle.trace_session.specs.declared.drops.Dropped.{Dropped}
use Rattle.session_options.specs.declared.options.Options.{Options}
use Rattle.session_options.specs.declared.options.Policy.TheVariants as policies
use Rattle.trace_session.specs.declared.outcome.RunFault.{RunFault}
use Rattle.trace_session.specs.declared.outcome.RunFault.TheVariants as faults
use Rattle.trace_session.specs.Drops.{Taken}
use Rattle.trace_session.specs.Sessions.{IsWholeLog, IsCutSession}
use Rattle.command_base.specs.Endings.{ToldCause, Ending, Done, WriteFault, NoMemory}
use Rattle.command_base.specs.HeldFiles.{IsHeld}
use Rattle.command_base.specs.Tasks.{Product, nothing, UntilBegun, Task}
use Rattle.command_base.specs.Readings.{Form, OnlyRefused, never, file_task}
use Rattle.trace_commands.specs.Traces.{TraceRead, IsRefusedAt}
use Rattle.session_commands.specs.Headline.{told_text, TextSame, DropsLawful}

-- A session of the run with these options may drop these calls, write these bytes as its log, and tell this text. Where
-- writers wait nothing is dropped.
pub record IsSessionOf (run : Recording) (options : Options) (drops : List Dropped) (bytes text : List ℕ)
    : Type 0 where
  pub waits : options.policy ≡ policies.Wait → drops ≡ []
  pub told : text ≡ told_text run options.level drops
  pub whole : IsWholeLog run options.batch (Taken run options.level drops) bytes
  pub text_same : TextSame run options drops bytes
  pub drops_lawful : DropsLawful run options drops

-- the rings of the run's writers have no more words together than a session may have
abbrev pub FitRings : Recording → Options → Type 0
FitRings run options = length run.writers * options.ring ≤ MAX_SESSION_WORDS

-- The trace was read to its last byte, the rings fit, and a session of its run gives the log and the text.
pub record GivesSession (trace : List ℕ) (options : Options) (old : Desk) (product : Product) : Type 0 where
  pub run : Recording
  pub drops : List Dropped
  pub bytes : List ℕ
  pub trace_read : TraceRead old trace run
  pub rings : FitRings run options
  pub made : product.made ≡ Some bytes
  pub session : IsSessionOf run options drops bytes product.text

-- the cause that the rings have too many words
abbrev pub rings_too_large : ToldCause
rings_too_large = record { number = 19; name = codes "RingsTooLarge" }

-- The trace is refused at line 0: it was read to its last byte, and the rings of its writers would have too many words.
pub record RefusesRings (trace : List ℕ) (options : Options) (old : Desk) (product : Product) (name : List ℕ)
    (line : Option ℕ) (cause : ToldCause) : Type 0 where
  pub named : name ≡ trace
  pub nothing_came : product ≡ nothing
  pub at_no_line : line ≡ Some 0
  pub cause_is : cause ≡ rings_too_large
  pub run : Recording
  pub trace_read : TraceRead old trace run
  pub large : ¬ (FitRings run options)

-- the file holds no trace, or one whose rings would have too many words
abbrev pub IsRefusedReplay : List ℕ → Options → Desk → Product → List ℕ → Option ℕ → ToldCause → Type 0
IsRefusedReplay trace options old product name line cause =
    IsRefusedAt trace old product name line cause ⊎ RefusesRings trace options old product name line cause

-- what a trace gives: a session of its run, or that it is refused
abbrev pub ReplayGives : List ℕ → Options → Form
ReplayGives trace options old product Done = GivesSession trace options old product
ReplayGives trace options old product ending = OnlyRefused (IsRefusedReplay trace options) old product ending

-- the bytes spell a run whose rings fit
abbrev pub IsReplayable : Options → List ℕ → Type 0
IsReplayable options bytes = (run : Recording) × TraceText bytes run × FitRings run options

-- the bytes are none, or the front of a log that a session of the run might give
abbrev pub IsLogFront : Recording → Options → List ℕ → Type 0
IsLogFront run options bytes = (bytes ≡ []) ⊎ IsCutSession run options bytes

-- the trace was read to its last byte and its rings fit, and where the log isn't whole its name holds the front of one,
-- or no bytes
abbrev pub LeavesLog : List ℕ → Options → Desk → List ℕ → Type 0
LeavesLog trace options old bytes =
    (run : Recording) × TraceRead old trace run × FitRings run options × IsLogFront run options bytes

-- Why the log's name was given no whole log: it couldn't be created, and is as it was, or a write failed, and it holds
-- what was written before; or memory was wanting, and it holds no bytes.
abbrev pub GivesNoLog : Recording → Options → List ℕ → Desk → Desk → Ending → Type 0
GivesNoLog run options log old new (WriteFault name) =
    (name ≡ log)
    × ((found_in new log ≡ found_in old log)
    ⊎ ((bytes : List ℕ) × IsHeld new log bytes × IsLogFront run options bytes))
    × Rose old.write_faults new.write_faults
GivesNoLog run options log old new NoMemory = IsHeld new log [] × (new.write_faults ≡ old.write_faults)
GivesNoLog run options log old new ending = ⊥

-- why a session wasn't run to its end, as an end; its sizes are right
abbrev pub run_fault_ending : List ℕ → RunFault → Ending
run_fault_ending log faults.SinkFault = WriteFault log
run_fault_ending log fault = NoMemory

-- `replay`: the calls of a trace are logged in a session, and what it came to is printed
abbrev pub replay_task : List ℕ → List ℕ → Options → Task
replay_task trace log options =
    file_task trace UntilBegun (ReplayGives trace options) never (IsReplayable options) (Some log)
    (LeavesLog trace options)
