-- What the first writers of a run leave, when their workers are done.
use Rattle.std.specs.Prelude.{◌≡◌, ℕ, ◌+◌, ◌<◌, ◌≤◌, Bool, true, List, [], All, length, map, take}
use Rattle.std.specs.List.{AllZip, enumerate_from}
use Rattle.log_dictionary.specs.Clocks.{first_tick}
use Rattle.log_dictionary.specs.declared.severity.Severity.{Severity}
use Rattle.session_options.specs.declared.options.Options.{Options}
use Rattle.session_options.specs.declared.options.Policy.TheVariants as policies
use Rattle.arg_records.specs.declared.call.Call.{Call}
use Rattle.ring_core.specs.Plans.{Plan, plan_of, AreFramesOf}
use Rattle.trace_text.specs.Recordings.{Recording}
use Rattle.trace_session.specs.declared.drops.Dropped.{Dropped}
use Rattle.trace_session.specs.Levels.{Kept}
use Rattle.trace_session.specs.Drops.{taken_of, LawfulDrops, call_count}
use Rattle.trace_session.specs.Workers.{WriterTask, Work}
use Rattle.log_session.specs.Writers.{WriterView}

-- the task of a run's writer
abbrev pub task_at : Recording → Options → ℕ → WriterTask
task_at run options number =
    record { run = run; level = options.level; policy = options.policy; number = number }

-- what the worker of this writer works on, over this ring
abbrev pub work_at : Recording → Options → ℕ × List ℕ → Work
work_at run options (number, pair) =
    record { task = task_at run options number; pair = pair; words = options.ring }

-- what the workers of a run's writers work on, over these rings
abbrev pub works_of : Recording → Options → List (List ℕ) → List Work
works_of run options pairs = map (work_at run options) (enumerate_from 0 pairs)

-- the calls of the first so many writers that the level keeps and that aren't dropped
abbrev pub taken_front : Recording → Severity → List Dropped → ℕ → List (List Call)
taken_front run level drops count = map (taken_of run level drops) (enumerate_from 0 (take count run.writers))

-- the writer has logged these calls, and is closed
pub record HasSent {S : Type 0} (plan : Plan) (sent : S → List (List ℕ)) (closed : S → Bool) (writer : WriterView S)
    (calls : List Call) : Type 0 where
  pub frames : AreFramesOf plan (sent writer.end) calls
  pub closed_is : closed writer.end ≡ true
  pub counted : writer.accepted ≡ length calls

-- what is left of the first writers of a run
pub record FinishedView (S : Type 0) : Type 0 where
  pub run : Recording
  pub options : Options
  pub drops : List Dropped
  pub writers : List (WriterView S)

-- The writers have logged all calls that the level keeps, but for the drops, and these are lawful. Where calls are
-- dropped, each was tried once.
pub record AreDone {S : Type 0} (sent : S → List (List ℕ)) (closed : S → Bool) (done : FinishedView S) : Type 0 where
  pub within : length done.writers ≤ length done.run.writers
  pub lawful : LawfulDrops done.run done.options.level done.options.ring done.drops
  pub before : All (λ drop. drop.writer < length done.writers) done.drops
  pub waits : done.options.policy ≡ policies.Wait → done.drops ≡ []
  pub sent_are : AllZip (HasSent (plan_of done.run.dictionary (first_tick done.run.clocks)) sent closed) done.writers
      (taken_front done.run done.options.level done.drops (length done.writers))
  pub kept : call_count (taken_front done.run done.options.level done.drops (length done.writers))
      + length done.drops ≡ call_count (take (length done.writers) (Kept done.run done.options.level))
  pub tried : done.options.policy ≡ policies.Shed → map (λ writer. writer.asked) done.writers
      ≡ map length (take (length done.writers) (Kept done.run done.options.level))
