-- The lines of a run, and where its calls stand.
use Rattle.std.specs.Prelude.{◌≡◌, ℕ, List, Some, slice_get}
use Rattle.log_dictionary.specs.Calls.{LogCall}
use Rattle.arg_records.specs.declared.call.Call.{Call}
use Rattle.arg_records.specs.Calls.{log_call}
use Rattle.direct_printf.specs.Lines.{Direct}
use Rattle.trace_text.specs.Recordings.{Recording, calls_of}

-- the lines of all calls of a run
abbrev pub direct_text : Recording → List ℕ
direct_text run = Direct run.clocks (calls_of run)

-- the run has this call, which stands among those of its writer where its ordinal says
pub record HasCall (run : Recording) (made : LogCall) : Type 0 where
  pub calls : List Call
  pub call : Call
  pub of_writer : slice_get run.writers made.writer ≡ Some calls
  pub at_ordinal : slice_get calls made.ordinal ≡ Some call
  pub is : log_call run.dictionary made.writer (made.ordinal, call) ≡ Some made
