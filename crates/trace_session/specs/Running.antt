-- A session that is ready to begin.
use Rattle.std.specs.Prelude.{◌≡◌, ℕ, Bool, false, List, length, map}
use Rattle.session_options.specs.declared.options.Options.{Options}
use Rattle.ring_core.specs.Plans.{Plan}
use Rattle.roaming_consumer.specs.declared.roamer.Roamer.{Roamer}
use Rattle.roaming_consumer.specs.Roamers.{ends_of, roamer_messages, roamer_version, roamer_clocks, roamer_batch, is_faulted, ArePlanned}
use Rattle.trace_text.specs.Recordings.{Recording}
use Rattle.log_session.specs.Starts.{IsUnused, IsNew}
use Rattle.trace_session.specs.Workers.{Work}
use Rattle.trace_session.specs.Finishing.{works_of}
use Rattle.log_session.specs.Writers.{WriterView}

-- nothing was logged into the writer's ring, nor tried, and it has this size and this plan
pub record IsNewWriter {S : Type 0} (size : ℕ) (plan : Plan) (words : S → ℕ) (planned : S → Plan)
    (sent : S → List (List ℕ)) (closed : S → Bool) (at seen : S → ℕ) (writer : WriterView S) : Type 0 where
  pub size_is : words writer.end ≡ size
  pub plan_is : planned writer.end ≡ plan
  pub unused : IsUnused (sent writer.end) (closed writer.end) (at writer.end) (seen writer.end)
  pub new : IsNew plan.first writer

-- The workers are those of the run's writers, over the rings of the roamer, which is one for the run.
pub record AreReady {O : Type 0} (pair : O → List ℕ) (plan : O → Plan) (run : Recording) (options : Options)
    (works : List Work) (roamer : Roamer O) : Type 0 where
  pub works_are : works ≡ works_of run options (map pair (ends_of roamer))
  pub count : length works ≡ length run.writers
  pub planned : ArePlanned plan roamer
  pub messages : roamer_messages roamer ≡ run.dictionary
  pub version : roamer_version roamer ≡ run.version
  pub clocks : roamer_clocks roamer ≡ run.clocks
  pub batch : roamer_batch roamer ≡ options.batch
  pub unfaulted : is_faulted roamer ≡ false
