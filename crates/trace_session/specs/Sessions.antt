-- What a session came to.
use Rattle.std.specs.Prelude.{◌≡◌, ℕ, ◌+◌, ◌<◌, List, [], ◌++◌, length, map, get_or}
use Rattle.std.specs.List.{AllZip}
use Rattle.session_options.specs.declared.options.Options.{Options}
use Rattle.session_options.specs.declared.options.Policy.TheVariants as policies
use Rattle.checkpoint_io.specs.Validity.{IsClosed}
use Rattle.checkpoint_io.specs.Logs.{LogOf}
use Rattle.arg_records.specs.declared.call.Call.{Call}
use Rattle.ring_core.specs.Plans.{frames_of}
use Rattle.trace_text.specs.Recordings.{Recording}
use Rattle.trace_session.specs.declared.drops.Dropped.{Dropped}
use Rattle.trace_session.specs.declared.outcome.Outcome.{Outcome}
use Rattle.trace_session.specs.Levels.{Kept}
use Rattle.trace_session.specs.Drops.{Taken, LawfulDrops, call_count}

-- all calls that the level keeps are accounted for: accepted, or dropped; and the others were passed over
pub record AreCounted (run : Recording) (options : Options) (drops : List Dropped) (accepted filtered : ℕ)
    : Type 0 where
  pub all_kept : accepted + length drops ≡ call_count (Kept run options.level)
  pub all_calls : filtered + call_count (Kept run options.level) ≡ call_count run.writers

-- the bytes are the log of these calls, with a close mark of each writer
pub record IsWholeLog (run : Recording) (batch : ℕ) (taken : List (List Call)) (bytes : List ℕ) : Type 0 where
  pub lawful : LogOf bytes taken run.dictionary run.version run.clocks batch
  pub closed : (writer : ℕ) → writer < length taken → IsClosed writer lawful.blocks

-- of each ring what was accepted and what was taken are the frames of its writer's calls
pub record AreSettled {D : Type 0} (sent got : D → List (List ℕ)) (settled : List D) (taken : List (List Call))
    : Type 0 where
  pub sent_are : map sent settled ≡ map frames_of taken
  pub got_are : map got settled ≡ map frames_of taken

-- A session of a run came to this outcome, and its log is these bytes.
pub record IsSession {D : Type 0} (sent got : D → List (List ℕ)) (run : Recording) (options : Options)
    (outcome : Outcome D) (bytes : List ℕ) : Type 0 where
  pub dropped : LawfulDrops run options.level options.ring outcome.drops
  pub waits : options.policy ≡ policies.Wait → outcome.drops ≡ []
  pub log : IsWholeLog run options.batch (Taken run options.level outcome.drops) bytes
  pub counts : AreCounted run options outcome.drops outcome.accepted outcome.filtered
  pub settled : AreSettled sent got outcome.settled.items (Taken run options.level outcome.drops)

-- of each writer the calls are the first ones of another list
abbrev pub AreFirstCalls : List (List Call) → List (List Call) → Type 0
AreFirstCalls taken all = AllZip (λ calls whole. (rest : List Call) × (whole ≡ calls ++ rest)) taken all

-- The bytes are the front of a log that a session of the run might give. It is that of the first calls of each writer
-- that the level keeps and that aren't dropped, and of all of them where the writer's close mark is in it. The drops are
-- lawful, and where writers wait there are none.
pub record IsCutSession (run : Recording) (options : Options) (bytes : List ℕ) : Type 0 where
  pub drops : List Dropped
  pub dropped : LawfulDrops run options.level options.ring drops
  pub waits : options.policy ≡ policies.Wait → drops ≡ []
  pub taken : List (List Call)
  pub first : AreFirstCalls taken (Taken run options.level drops)
  pub rest : List ℕ
  pub log : LogOf (bytes ++ rest) taken run.dictionary run.version run.clocks options.batch
  pub closed : (writer : ℕ) → IsClosed writer log.blocks
      → get_or taken writer [] ≡ get_or (Taken run options.level drops) writer []
