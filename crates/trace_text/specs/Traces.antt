-- Which texts spell which runs.
use Rattle.std.specs.Prelude.{◌≡◌, ℕ, ◌<◌, ◌≤◌, List, [], ◌∷◌, ◌++◌, length, map, filter, ◌==◌}
use Rattle.std.specs.List.{AllByRecursion, range_with_len}
use Rattle.log_dictionary.specs.Messages.{AreDistinct}
use Rattle.arg_records.specs.declared.call.Call.{Call}
use Rattle.log_dictionary.specs.declared.dictionary.TheConstants.{MAX_MESSAGES}
use Rattle.trace_text.specs.declared.trace.TheConstants.{MAX_TRACE}
use Rattle.trace_text.specs.Recordings.{Recording, IsRecording}
use Rattle.trace_text.specs.Lines.{WriterCall, first_line, last_line, clock_line, writers_line, SpellsMessages, SpellsCalls, text_of_lines}

-- the calls of one writer among those of all, in the order of the file
abbrev pub calls_by : List WriterCall → ℕ → List Call
calls_by calls writer = map (λ made. made.call) (filter (λ made. made.writer == writer) calls)

-- The text is the first line, a line for each message and for each clock, one for the number of writers, a line for each
-- call, and the last line. The calls of the writers may be mixed in any way.
pub record TraceText (bytes : List ℕ) (run : Recording) : Type 0 where
  pub short : length bytes ≤ MAX_TRACE
  pub message_lines : List (List ℕ)
  pub call_lines : List (List ℕ)
  pub calls : List WriterCall
  pub whole :
      bytes ≡ text_of_lines (first_line run.version ∷ message_lines
      ++ (map clock_line run.clocks ++ (writers_line (length run.writers) ∷ call_lines ++ last_line ∷ [])))
  pub messages_spelled : SpellsMessages 0 message_lines run.dictionary
  pub distinct : AreDistinct run.dictionary
  pub few_messages : length run.dictionary ≤ MAX_MESSAGES
  pub calls_spelled : SpellsCalls call_lines calls
  pub known_writers : AllByRecursion (λ made. made.writer < length run.writers) calls
  pub by_writer : run.writers ≡ map (calls_by calls) (range_with_len 0 (length run.writers))
  pub recorded : IsRecording run
