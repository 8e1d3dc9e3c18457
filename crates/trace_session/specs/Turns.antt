-- What a turn of a worker did.
use Rattle.std.specs.Prelude.{◌≡◌, ◌⊎◌, ℕ, ◌+◌, Bool, true, false, [], ◌∷◌, ◌++◌, length}
use Rattle.nl_io.specs.Count.{Rose, counted}
use Rattle.session_options.specs.declared.options.Policy.TheVariants as policies
use Rattle.ring_core.specs.declared.answers.Full.{Full}
use Rattle.trace_session.specs.declared.worker.Turn.{Turn}
use Rattle.trace_session.specs.declared.worker.Turn.TheVariants as turns
use Rattle.trace_session.specs.Workers.{WorkerView, task_calls, kept_before, drop_of, IsNextKept, WantsRoom}

-- Calls were passed over that the level doesn't keep, and nothing was tried.
pub record SkipsFiltered {S : Type 0} (old new : WorkerView S) : Type 0 where
  pub task_is : new.task ≡ old.task
  pub writer_is : new.writer ≡ old.writer
  pub drops_are : new.progress.drops ≡ old.progress.drops
  pub closed_is : new.progress.closed ≡ old.progress.closed
  pub kept_are : kept_before new.task new.progress ≡ kept_before old.task old.progress

-- The next call is behind the worker, and no drop.
abbrev pub LogsNext : {S : Type 0} → WorkerView S → WorkerView S → Type 0
LogsNext old new = new.progress ≡ record old.progress { next = old.progress.next + 1 }

-- The next call was dropped: it is listed with what its ring lacked when it was tried, in this very try.
pub record DropsNext {S : Type 0} (at words seen looks : S → ℕ) (old new : WorkerView S) : Type 0 where
  pub sheds : old.task.policy ≡ policies.Shed
  pub looked : Rose (looks old.writer.end) (looks new.writer.end)
  pub full : Full
  pub lacked : WantsRoom old.task old.progress (at new.writer.end) (words new.writer.end) (seen new.writer.end) full
  pub progress_is : new.progress ≡ record old.progress {
    next = old.progress.next + 1;
    drops = old.progress.drops ++ drop_of old.task old.progress full ∷ [];
  }

-- The next call, which the level keeps, was tried, once. Where it was answered it was logged or dropped; else writers
-- wait for room, and it is to be tried again.
pub record TriesCall {S : Type 0} (at words seen looks : S → ℕ) (old new : WorkerView S) (answered : Bool)
    : Type 0 where
  pub next : IsNextKept old.task old.progress
  pub once : new.writer.asked ≡ counted old.writer.asked
  pub answer : answered ≡ true → LogsNext old new ⊎ DropsNext at words seen looks old new
  pub none : answered ≡ false → (old.task.policy ≡ policies.Wait) × (new.progress ≡ old.progress)

-- All calls are answered, and the writer was closed.
pub record ClosesWriter {S : Type 0} (closed : S → Bool) (old new : WorkerView S) : Type 0 where
  pub all : old.progress.next ≡ length (task_calls old.task)
  pub untried : new.writer.asked ≡ old.writer.asked
  pub closed_is : closed new.writer.end ≡ true
  pub progress_is : new.progress ≡ record old.progress { closed = true }

-- One call was tried, or the writer was closed where no call was left.
abbrev pub TriesNext : {S : Type 0} → (S → ℕ) → (S → ℕ) → (S → ℕ) → (S → ℕ) → (S → Bool) → WorkerView S → WorkerView S
    → Bool → Type 0
TriesNext at words seen looks closed old new moved =
    TriesCall at words seen looks old new moved ⊎ (ClosesWriter closed old new × moved ≡ true)

-- The same, behind calls that the level doesn't keep.
pub record TakesTurn {S : Type 0} (at words seen looks : S → ℕ) (closed : S → Bool) (old new : WorkerView S)
    (moved : Bool) : Type 0 where
  pub passed : WorkerView S
  pub passes : SkipsFiltered old passed
  pub tries : TriesNext at words seen looks closed passed new moved

-- What a turn with this answer did. There was nothing to do where the end was closed before.
abbrev pub IsTurn : {S : Type 0} → (S → ℕ) → (S → ℕ) → (S → ℕ) → (S → ℕ) → (S → Bool) → Turn → WorkerView S
    → WorkerView S → Type 0
IsTurn at words seen looks closed turns.Moved old new = TakesTurn at words seen looks closed old new true
IsTurn at words seen looks closed turns.Stuck old new = TakesTurn at words seen looks closed old new false
IsTurn at words seen looks closed turns.Finished old new = (old.progress.closed ≡ true) × (new ≡ old)
