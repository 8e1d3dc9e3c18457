-- What a recorded run is: its version, its messages, its clocks, and the calls of each writer.
use Rattle.std.specs.Prelude.{◌≡◌, ◌≤◌, ℕ, true, List, [], length, replicate, sum_by}
use Rattle.std.specs.List.{AllByRecursion}
use Rattle.log_dictionary.specs.declared.clock.Clock.{Clock}
use Rattle.log_dictionary.specs.declared.message.Message.{Message}
use Rattle.log_dictionary.specs.Calls.{LogCall}
use Rattle.log_dictionary.specs.Clocks.{first_tick}
use Rattle.session_options.specs.Versions.{is_known, most_writers, MayHaveClocks}
use Rattle.trace_text.specs.declared.trace.TheConstants.{MAX_CALLS}
use Rattle.arg_records.specs.Calls.{IsCall, NeverFalls, calls_by_writer}
use Rattle.arg_records.specs.declared.call.Call.{Call}

pub record Recording : Type 0 where
  pub version : ℕ
  pub dictionary : List Message
  pub clocks : List Clock
  pub writers : List (List Call)

-- a run of so many writers before any call
abbrev pub start_of : ℕ → List Message → List Clock → ℕ → Recording
start_of version messages clocks writers =
    record { version = version; dictionary = messages; clocks = clocks; writers = replicate writers [] }

-- A run that can be recorded: its version is known and may have its clocks and so many writers, there are a writer and at
-- most 4,194,304 calls, and each writer's stamps begin at the first clock's tick and never fall.
pub record IsRecording (run : Recording) : Type 0 where
  pub known : is_known run.version ≡ true
  pub clocks : MayHaveClocks run.version run.clocks
  pub some_writer : 1 ≤ length run.writers
  pub few_writers : length run.writers ≤ most_writers run.version
  pub few_calls : sum_by length run.writers ≤ MAX_CALLS
  pub calls : AllByRecursion (AllByRecursion (IsCall run.dictionary)) run.writers
  pub stamps : AllByRecursion (NeverFalls (first_tick run.clocks)) run.writers

-- all calls of a run, writer by writer
abbrev pub calls_of : Recording → List LogCall
calls_of run = calls_by_writer run.dictionary run.writers
