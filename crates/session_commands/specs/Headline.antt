-- The headline: what a replay that was done has read, written, dropped and told. Each of its six clauses is one
-- definition.
use Rattle.std.specs.Prelude.{◌≡◌, ◌≢◌, ℕ, ◌-◌, List, [], ◌++◌, length, codes}
use Rattle.std.specs.Fmt.{decimal}
use Rattle.std.specs.List.{flat_map}
use Rattle.nl_io.specs.Content.{Told, with_end, PutsFront}
use Rattle.nl_io.specs.Desk.{Desk, found_in}
use Rattle.log_dictionary.specs.declared.severity.Severity.{Severity}
use Rattle.arg_records.specs.Calls.{calls_by_writer}
use Rattle.direct_printf.specs.Lines.{Direct}
use Rattle.trace_text.specs.Recordings.{Recording}
use Rattle.decompressor.specs.Decompression.{Decompressed}
use Rattle.trace_session.specs.declared.drops.Dropped.{Dropped}
use Rattle.session_options.specs.declared.options.Options.{Options}
use Rattle.session_options.specs.declared.options.Policy.TheVariants as policies
use Rattle.trace_session.specs.Levels.{Kept}
use Rattle.trace_session.specs.Drops.{Taken, LawfulDrops, call_count}
use Rattle.trace_session.specs.Sessions.{IsWholeLog}
pub use Rattle.trace_commands.specs.Traces.{TraceRead}
use Rattle.command_base.specs.HeldFiles.{IsHeld}
use Rattle.command_base.specs.Scenes.{Scene}

-- ---- what is told

-- the line on a dropped call
abbrev pub drop_line : Dropped → List ℕ
drop_line drop =
    codes "drop " ++ decimal drop.writer ++ codes " " ++ decimal drop.ordinal ++ codes " need " ++ decimal drop.need
    ++ codes " room " ++ decimal drop.room ++ codes "\n"

-- the line on how many calls were accepted, dropped and filtered
abbrev pub counts_line : ℕ → ℕ → ℕ → List ℕ
counts_line accepted dropped filtered =
    codes "accepted " ++ decimal accepted ++ codes " dropped " ++ decimal dropped ++ codes " filtered "
    ++ decimal filtered ++ codes "\n"

-- a line for each of the drops, in their order, and the counts
abbrev pub outcome_text : List Dropped → ℕ → ℕ → List ℕ
outcome_text drops accepted filtered = flat_map drop_line drops ++ counts_line accepted (length drops) filtered

-- how many calls were accepted: all that the level keeps, but for the drops
abbrev pub accepted_count : Recording → Severity → List Dropped → ℕ
accepted_count run level drops = call_count (Kept run level) - length drops

-- how many calls were filtered: all, but for the accepted ones and the drops
abbrev pub filtered_count : Recording → Severity → List Dropped → ℕ
filtered_count run level drops = call_count run.writers - accepted_count run level drops - length drops

-- what is told of a run at a level with these drops
abbrev pub told_text : Recording → Severity → List Dropped → List ℕ
told_text run level drops = outcome_text drops (accepted_count run level drops) (filtered_count run level drops)

-- the lines of the calls that the level keeps and that aren't dropped
abbrev pub taken_text : Recording → Severity → List Dropped → List ℕ
taken_text run level drops = Direct run.clocks (calls_by_writer run.dictionary (Taken run level drops))

-- ---- the clauses

-- Where writers wait nothing was dropped. The output grew by the lines on these drops and the counts, and by nothing
-- else.
pub record OutputTold (run : Recording) (options : Options) (drops : List Dropped) (was is : Told) : Type 0 where
  pub waits : options.policy ≡ policies.Wait → drops ≡ []
  pub grew : is ≡ with_end (told_text run options.level drops) was

-- The log's name holds these bytes. They are the log of the calls that the level keeps and that aren't dropped, in
-- extents of at most so many records, with a close mark of each writer.
pub record LogLawful (new : Desk) (log : List ℕ) (run : Recording) (options : Options) (drops : List Dropped)
    (bytes : List ℕ) : Type 0 where
  pub held : IsHeld new log bytes
  pub whole : IsWholeLog run options.batch (Taken run options.level drops) bytes

-- The log decompresses to the lines of these calls.
abbrev pub TextSame : Recording → Options → List Dropped → List ℕ → Type 0
TextSame run options drops bytes = Decompressed bytes (taken_text run options.level drops)

-- The drops stand in order, and each is of a call that the level keeps and for which its own ring lacked room.
abbrev pub DropsLawful : Recording → Options → List Dropped → Type 0
DropsLawful run options drops = LawfulDrops run options.level options.ring drops

-- Every other name holds what it held.
abbrev pub OthersUntouched : List ℕ → Desk → Desk → Type 0
OthersUntouched log old new = (other : List ℕ) → other ≢ log → found_in new other ≡ found_in old other

-- ---- all of them

-- The headline, of one run, one list of drops and one log.
pub record Headline (trace log : List ℕ) (options : Options) (old new : Scene) (run : Recording)
    (drops : List Dropped) (bytes : List ℕ) : Type 0 where
  pub trace_read : TraceRead old.desk trace run
  pub output_told : OutputTold run options drops old.put new.put
  pub log_lawful : LogLawful new.desk log run options drops bytes
  pub text_same : TextSame run options drops bytes
  pub drops_lawful : DropsLawful run options drops
  pub others_untouched : OthersUntouched log old.desk new.desk

-- A front of that text was told. Where writers wait nothing was dropped.
pub record OutputCut (run : Recording) (options : Options) (drops : List Dropped) (was is : Told) : Type 0 where
  pub waits : options.policy ≡ policies.Wait → drops ≡ []
  pub grew : PutsFront (told_text run options.level drops) was is

-- The headline, but that the output was cut off.
pub record HeadlineCut (trace log : List ℕ) (options : Options) (old new : Scene) (run : Recording)
    (drops : List Dropped) (bytes : List ℕ) : Type 0 where
  pub trace_read : TraceRead old.desk trace run
  pub output_cut : OutputCut run options drops old.put new.put
  pub log_lawful : LogLawful new.desk log run options drops bytes
  pub text_same : TextSame run options drops bytes
  pub drops_lawful : DropsLawful run options drops
  pub others_untouched : OthersUntouched log old.desk new.desk
