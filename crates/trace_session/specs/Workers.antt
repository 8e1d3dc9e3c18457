-- Workers: how far one has come with the calls of its writer.
use Rattle.std.specs.Prelude.{◌≡◌, ℕ, ◌+◌, ◌<◌, ◌≤◌, Bool, true, false, List, [], length, take, filter, slice_get, Some, All}
use Rattle.log_dictionary.specs.Clocks.{first_tick}
use Rattle.log_dictionary.specs.declared.severity.Severity.{Severity}
use Rattle.session_options.specs.declared.limits.TheConstants.{MIN_RING, MAX_RING}
use Rattle.session_options.specs.declared.options.Policy.{Policy}
use Rattle.session_options.specs.declared.options.Policy.TheVariants as policies
use Rattle.arg_records.specs.declared.call.Call.{Call}
use Rattle.arg_records.specs.Calls.{last_stamp}
use Rattle.arg_records.specs.Frames.{FrameLen}
use Rattle.ring_core.specs.declared.answers.Full.{Full}
use Rattle.ring_core.specs.Answers.{IsFull}
use Rattle.ring_core.specs.Plans.{Plan, plan_of, AreFramesOf}
use Rattle.ring_core.specs.Positions.{Position}
use Rattle.log_session.specs.Writers.{WriterView}
use Rattle.trace_text.specs.Recordings.{Recording, IsRecording}
use Rattle.trace_session.specs.declared.drops.Dropped.{Dropped}
use Rattle.trace_session.specs.Levels.{keeps}
use Rattle.trace_session.specs.Drops.{calls_at, taken_of, released_at, LawfulDrops}

-- what a worker is to do: the calls of one writer of a run that the level keeps, by this policy
pub record WriterTask : Type 0 where
  pub run : Recording
  pub level : Severity
  pub policy : Policy
  pub number : ℕ

-- how far it has come: the next of all calls of the writer, the drops so far, and whether it has closed its end
pub record WorkerProgress : Type 0 where
  pub next : ℕ
  pub drops : List Dropped
  pub closed : Bool

-- a worker as contracts see it
pub record WorkerView (S : Type 0) : Type 0 where
  pub task : WriterTask
  pub writer : WriterView S
  pub progress : WorkerProgress

-- what a writer and the end of its ring tell: the plan and the size of the ring, the frames that were put into it, the
-- position behind them, up to which position they are known to be taken, whether the end is closed, the stamp of the last
-- call, the number of calls, and how often the writer was tried
pub record WriterState : Type 0 where
  pub plan : Plan
  pub words : ℕ
  pub sent : List (List ℕ)
  pub at : ℕ
  pub seen : ℕ
  pub closed : Bool
  pub last : ℕ
  pub accepted : ℕ
  pub asked : ℕ

abbrev pub state_of : {S : Type 0} → (S → Plan) → (S → ℕ) → (S → List (List ℕ)) → (S → ℕ) → (S → ℕ) → (S → Bool)
    → WriterView S → WriterState
state_of plan words sent at seen closed writer = record {
  plan = plan writer.end;
  words = words writer.end;
  sent = sent writer.end;
  at = at writer.end;
  seen = seen writer.end;
  closed = closed writer.end;
  last = writer.last;
  accepted = writer.accepted;
  asked = writer.asked;
}

-- all calls of its writer
abbrev pub task_calls : WriterTask → List Call
task_calls task = calls_at task.run task.number

-- those before the next one
abbrev pub calls_before : WriterTask → WorkerProgress → List Call
calls_before task progress = take progress.next (task_calls task)

-- those of them that were accepted
abbrev pub accepted_before : WriterTask → WorkerProgress → List Call
accepted_before task progress = taken_of task.run task.level progress.drops (task.number, calls_before task progress)

-- those of them that the level keeps
abbrev pub kept_before : WriterTask → WorkerProgress → List Call
kept_before task progress = filter (keeps task.run.dictionary task.level) (calls_before task progress)

-- what is known of the progress alone
pub record IsProgress (task : WriterTask) (words : ℕ) (progress : WorkerProgress) : Type 0 where
  pub known : task.number < length task.run.writers
  pub within : progress.next ≤ length (task_calls task)
  pub own : All (λ drop. drop.writer ≡ task.number) progress.drops
  pub before : All (λ drop. drop.ordinal < progress.next) progress.drops
  pub lawful : LawfulDrops task.run task.level words progress.drops
  pub waits : task.policy ≡ policies.Wait → progress.drops ≡ []
  pub kept : length (accepted_before task progress) + length progress.drops ≡ length (kept_before task progress)
  pub all : progress.closed ≡ true → progress.next ≡ length (task_calls task)

-- where calls are dropped, its writer was asked once to log each of the calls that the level keeps
abbrev pub HasTriedOnce : WriterTask → WorkerProgress → ℕ → Type 0
HasTriedOnce task progress asked = task.policy ≡ policies.Shed → asked ≡ length (kept_before task progress)

-- and what is known of its writer beside it: it accepted the frames of these calls
pub record HasWorked (task : WriterTask) (progress : WorkerProgress) (writer : WriterState) : Type 0 where
  pub recorded : IsRecording task.run
  pub ring : (MIN_RING ≤ writer.words) × (writer.words ≤ MAX_RING)
  pub progress_is : IsProgress task writer.words progress
  pub plan_is : writer.plan ≡ plan_of task.run.dictionary (first_tick task.run.clocks)
  pub frames : AreFramesOf writer.plan writer.sent (accepted_before task progress)
  pub placed : writer.at ≡ Position (accepted_before task progress) writer.words
  pub released : All (λ drop. released_at task.run task.level writer.words progress.drops drop ≤ writer.seen)
      progress.drops
  pub closed_is : writer.closed ≡ progress.closed
  pub last_is : writer.last ≤ last_stamp (first_tick task.run.clocks) (calls_before task progress)
  pub counted : writer.accepted ≡ length writer.sent
  pub tried : HasTriedOnce task progress writer.asked

-- what a worker works on: its task, and a ring of so many words
pub record Work : Type 0 where
  pub task : WriterTask
  pub pair : List ℕ
  pub words : ℕ

abbrev pub work_of : {S : Type 0} → (S → List ℕ) → (S → ℕ) → WorkerView S → Work
work_of pair words worker =
    record { task = worker.task; pair = pair worker.writer.end; words = words worker.writer.end }

-- the same task, over the same ring
abbrev pub IsSameWork : {S : Type 0} → (S → List ℕ) → (S → ℕ) → WorkerView S → WorkerView S → Type 0
IsSameWork pair words old new = work_of pair words new ≡ work_of pair words old

-- the next call is one that the level doesn't keep
abbrev pub IsNextFiltered : WriterTask → WorkerProgress → Type 0
IsNextFiltered task progress =
    (call : Call) × (slice_get (task_calls task) progress.next ≡ Some call)
    × (keeps task.run.dictionary task.level call ≡ false)

-- the next call is one that the level keeps
abbrev pub IsNextKept : WriterTask → WorkerProgress → Type 0
IsNextKept task progress =
    (call : Call) × (slice_get (task_calls task) progress.next ≡ Some call)
    × (keeps task.run.dictionary task.level call ≡ true)

-- what is listed of the next call where it is dropped
abbrev pub drop_of : WriterTask → WorkerProgress → Full → Dropped
drop_of task progress full =
    record { writer = task.number; ordinal = progress.next; need = full.need; room = full.room }

-- the ring lacks room for the next call
abbrev pub WantsRoom : WriterTask → WorkerProgress → ℕ → ℕ → ℕ → Full → Type 0
WantsRoom task progress at words seen full =
    (call : Call) → slice_get (task_calls task) progress.next ≡ Some call
    → IsFull at (FrameLen call.args) words seen full
