-- What was done was right.
use Rattle.std.proofs.Common.{◌≡◌, ℕ, Bool, true, false, List, [], ◌∷◌, ◌++◌, length, Option, Some, None, Result, Ok, Err, sym, ap, subst, ◌∙◌, append-nil, length-append, inl, inr, arith}
use Rattle.std.specs.Prelude.{if◌then◌else◌, ⊤}
use Rattle.std.specs.FinMap as map
use Rattle.std.proofs.lemmas.Option.{MatchOption-at_some}
use Rattle.nl_io.specs.Desk.{Desk, Held}
use Rattle.log_dictionary.specs.declared.message.Message.{Message}
use Rattle.session_options.specs.declared.options.Options.{Options}
use Rattle.checkpoint_io.specs.Blocks.{messages_of, FileOf}
use Rattle.log_scan.specs.Parts.{LogPart}
use Rattle.log_scan.specs.Scans.{IsWholeScan}
use Rattle.decompressor.specs.declared.report.Report.{Report}
use Rattle.decompressor.specs.declared.fault.DecodeFault.{DecodeFault}
use Rattle.decompressor.specs.declared.fault.DecodeFault.TheVariants as text_faults
use Rattle.aggregation.specs.declared.totals.Totals.{Totals}
use Rattle.aggregation.specs.declared.fault.AggregateFault.{AggregateFault}
use Rattle.aggregation.specs.declared.fault.AggregateFault.TheVariants as totals_faults
use Rattle.aggregation.specs.Totals.{has_number}
use Rattle.aggregation.specs.Aggregating.{HaveAnswer}
use Rattle.log_migration.specs.declared.fault.MigrateFault.{MigrateFault}
use Rattle.log_migration.specs.declared.fault.MigrateFault.TheVariants as migration_faults
use Rattle.log_migration.specs.Migrating.{HaveMigration}
use Rattle.schedule_text.specs.declared.cause.ScheduleCause.{ScheduleCause}
use Rattle.schedule_text.specs.Judged.{ScheduleOutcome}
use Rattle.schedule_text.specs.Schedules.{ComesTo}
use Rattle.trace_text.specs.Traces.{TraceText}
use Rattle.trace_text.specs.Dictionaries.{DictionaryText, DictionaryBreak}
use Rattle.cli_words.specs.Commands.{Command, Preprocess, Direct, Replay, Decompress, Aggregate, Generate, Selftest, Schedule, Migrate, Inject, Header}
use Rattle.command_base.specs.Endings.{Ending, IsDone, Done, StillOpen}
use Rattle.command_base.specs.Effects.{Completes, CommandEffect}
use Rattle.command_base.specs.HeldFiles.{HoldsSuch, Holds}
use Rattle.command_base.specs.Readings.{Form, Begun, never, ReadsFile}
use Rattle.command_base.specs.Scenes.{Scene}
use Rattle.command_base.specs.Tasks.{Product, Task}
use Rattle.source_commands.specs.Sources.{AreRight, ReadsSources}
use Rattle.source_commands.specs.Preprocessing.{GiveDictionary}
use Rattle.trace_commands.specs.Traces.{IsTrace, IsRefusedText}
use Rattle.trace_commands.specs.Tasks.{GivesLines}
use Rattle.dictionary_commands.specs.Heading.{GivesHeader, IsDictionary}
use Rattle.dictionary_commands.specs.Injecting.{GivesInjected, IsInjectable, AreInjectable, inject_task}
use Rattle.log_commands.specs.Logs.{IsLog, HasNumber}
use Rattle.log_commands.specs.Decompressing.{log_ending, HaveText, GivesText, BeginsText}
use Rattle.log_commands.specs.Aggregating.{totals_ending, GivesTotals}
use Rattle.log_commands.specs.Migrating.{migration_ending, GivesMigrated, IsMigratable}
use Rattle.schedule_commands.specs.Tasks.{verdict_of, GivesSteps, IsSchedule}
use Rattle.session_commands.specs.Replays.{IsReplayable, ReplayGives}
use Rattle.nanolog_cli.specs.Outcomes.{task_of}

-- ---- what a name holds, where that is told

module _ (desk : Desk) (held : Held) (told : desk.held ≡ Some held) where
  holds_so : (name : List ℕ) (such form : List ℕ → Type 0) → HoldsSuch desk name such
      → ((bytes : List ℕ) → such bytes → form bytes) → Holds desk name form
  holds_so name such form holds follows =
      let found = MatchOption-at_some ⊤ (λ (names : Held). (bytes : List ℕ) × (map.get names name ≡ Some bytes) × such bytes) held told holds in
      record { held = held; bytes = found.0; told = told; there = found.1; formed = follows found.0 found.2 }

  lines_right : (trace : List ℕ) (product : Product) (ending : Ending) → GivesLines trace desk product ending
      → IsDone ending → Holds desk trace IsTrace
  lines_right trace product Done gives done =
      holds_so trace (λ bytes. TraceText bytes gives.0) IsTrace gives.1 (λ bytes text. (gives.0, text))
  lines_right trace product (StillOpen name numbers) gives done = absurd gives
  lines_right trace product ending gives done = absurd cc

  session_right : (trace : List ℕ) (options : Options) (product : Product) (ending : Ending)
      → ReplayGives trace options desk product ending → IsDone ending → Holds desk trace (IsReplayable options)
  session_right trace options product Done gives done =
      holds_so trace (λ bytes. TraceText bytes gives.run) (IsReplayable options) gives.trace_read (λ bytes text. (gives.run, text, gives.rings))
  session_right trace options product (StillOpen name numbers) gives done = absurd gives
  session_right trace options product ending gives done = absurd cc

  header_right : (dictionary : List ℕ) (product : Product) (ending : Ending)
      → GivesHeader dictionary desk product ending → IsDone ending → Holds desk dictionary IsDictionary
  header_right dictionary product Done gives done =
      holds_so dictionary (λ bytes. DictionaryText bytes gives.0) IsDictionary gives.1 (λ bytes text. (gives.0, text))
  header_right dictionary product (StillOpen name numbers) gives done = absurd gives
  header_right dictionary product ending gives done = absurd cc

  source_right : (source : List ℕ) (messages : List Message) (product : Product) (ending : Ending)
      → GivesInjected source messages desk product ending → IsDone ending
      → Holds desk source (IsInjectable source messages)
  source_right source messages product Done (bytes, text, count, is, injects, gives) done = record {
    held = held;
    bytes = bytes;
    told = told;
    there = MatchOption-at_some ⊤ (λ (names : Held). map.get names source ≡ Some bytes) held told is.held;
    formed = (is.short, (text, count, injects));
  }
  source_right source messages product (StillOpen name numbers) gives done = absurd gives
  source_right source messages product ending gives done = absurd cc

-- ---- logs

same_prefix : (bytes prefix rest : List ℕ) → bytes ≡ prefix ++ rest → length bytes ≡ length prefix → prefix ≡ bytes
same_prefix bytes prefix [] whole count = sym (whole ∙ append-nil prefix)
same_prefix bytes prefix (byte ∷ rest) whole count =
    absurd (omega (arith, ap length whole, length-append prefix (byte ∷ rest), count))

-- bytes that were scanned to their end are a log
abbrev whole_log : (bytes : List ℕ) (part : LogPart) → IsWholeScan bytes part → IsLog bytes
whole_log bytes part is =
    let begins = is.front.begins in
    record {
      header = part.header;
      blocks = part.blocks;
      file = subst (FileOf part.header part.blocks)
          (same_prefix bytes begins.prefix begins.rest begins.whole begins.taken) begins.file;
      valid = begins.valid;
      within = is.within;
    }

text_right : (log text : List ℕ) (answer : Result Report DecodeFault) → IsDone (log_ending log answer) → (bytes : List ℕ)
    → HaveText text answer bytes → IsLog bytes
text_right log text (Ok report) done bytes have = whole_log bytes have.part have.scanned
text_right log text (Err (text_faults.Damaged offset cause)) done bytes have = absurd cc
text_right log text (Err fault) done bytes have = absurd have

number_there : (has : Bool) (totals told : Totals) → (if has then Some totals else None) ≡ Some told → has ≡ true
number_there true totals told is = cc
number_there false totals told is = cc

totals_right : (log : List ℕ) (id nth : ℕ) (answer : Result Totals AggregateFault) → IsDone (totals_ending log answer)
    → (bytes : List ℕ) → HaveAnswer id nth answer bytes → HasNumber id nth bytes
totals_right log id nth (Ok totals) done bytes (part, whole, is) = record {
  log = whole_log bytes part whole;
  has = number_there (has_number (messages_of part.blocks) id nth) _ totals is;
}
totals_right log id nth (Err (totals_faults.Damaged offset cause front)) done bytes have = absurd cc
totals_right log id nth (Err totals_faults.NoSuchMessage) done bytes have = absurd cc
totals_right log id nth (Err totals_faults.NoSuchArgument) done bytes have = absurd cc
totals_right log id nth (Err fault) done bytes have = absurd have

migration_right : (log made : List ℕ) (answer : Result ℕ MigrateFault) → IsDone (migration_ending log answer)
    → (bytes : List ℕ) → HaveMigration [] made answer bytes → IsMigratable bytes
migration_right log made (Ok count) done bytes (migrated, is, within, fits, same) =
    record { migrated = migrated; count = count; is = is; within = within; fits = fits }
migration_right log made (Err (migration_faults.Damaged offset cause)) done bytes have = absurd cc
migration_right log made (Err migration_faults.NotOne) done bytes have = absurd cc
migration_right log made (Err migration_faults.TooLarge) done bytes have = absurd cc
migration_right log made (Err fault) done bytes have = absurd have

-- ---- schedules

steps_right : (file text : List ℕ) (refused : Option (ℕ × ScheduleCause)) → IsDone (verdict_of file refused)
    → (bytes : List ℕ) → ComesTo bytes (record { printed = text; refused = refused }) → IsSchedule bytes
steps_right file text None done bytes (inl (s, last, is, same)) = (s, last, is)
steps_right file text None done bytes (inr (inl (line, head, same))) =
    absurd (let none = ap (λ (o : ScheduleOutcome). o.refused) same in cc)
steps_right file text None done bytes (inr (inr (s, line, cause, breaks, same))) =
    absurd (let none = ap (λ (o : ScheduleOutcome). o.refused) same in cc)
steps_right file text (Some (line, cause)) done bytes comes = absurd cc

-- ---- all commands

-- a file that was read gave what is done
read_form : (input : List ℕ) (form : Form) (begun : Begun) (old new : Desk) (product : Product) (ending : Ending)
    → ReadsFile input form begun old new product ending → IsDone ending → form old product ending
read_form input form begun old new product Done reads done = reads.2
read_form input form begun old new product (StillOpen name numbers) reads done = reads.2
read_form input form begun old new product ending reads done = absurd cc

-- no text is refused with what is done
not_refused : (text : List ℕ) (desk : Desk) (product : Product) (ending : Ending)
    → IsRefusedText DictionaryBreak text desk product ending → ¬ (IsDone ending)
not_refused text desk product Done refused done = refused
not_refused text desk product (StillOpen name numbers) refused done = refused
not_refused text desk product ending refused done = cc

sources_right : (names : List (List ℕ)) (old new : Desk) (held : Held) (product : Product) (ending : Ending)
    → ReadsSources names GiveDictionary old new product ending → IsDone ending → old.held ≡ Some held
    → AreRight old names
sources_right names old new held product Done reads done told = record { held = held; told = told; taken = reads.1.0 }
sources_right names old new held product (StillOpen name numbers) reads done told = absurd reads.0
sources_right names old new held product ending reads done told = absurd cc

inject_right : (dictionary source output : List ℕ) (old new : Desk) (held : Held) (product : Product) (ending : Ending)
    → (inject_task dictionary source output).reads old new product ending → IsDone ending → old.held ≡ Some held
    → AreInjectable dictionary source old
inject_right dictionary source output old new held product ending (inl reads) done told =
    absurd (not_refused dictionary old product ending
    (read_form dictionary (IsRefusedText DictionaryBreak dictionary) never old new product ending reads done) done)
inject_right dictionary source output old new held product ending (inr (messages, found, reads)) done told =
    let gives = read_form source (GivesInjected source messages) never old new product ending reads done in
    let right = source_right old held told source messages product ending gives done in
    holds_so old held told dictionary (λ bytes. DictionaryText bytes messages)
    (λ bytes. (those : List Message) × DictionaryText bytes those × Holds old source (IsInjectable source those)) found
    (λ bytes text. (messages, text, right))

reads_right : (command : Command) (old new : Desk) (held : Held) (product : Product) (ending : Ending)
    → (task_of command).reads old new product ending → IsDone ending → old.held ≡ Some held
    → (task_of command).right old
reads_right (Preprocess dictionary sources) old new held product ending reads done told =
    sources_right sources old new held product ending reads done told
reads_right (Direct trace) old new held product ending reads done told =
    lines_right old held told trace product ending
    (read_form trace (GivesLines trace) never old new product ending reads done) done
reads_right (Replay trace log options) old new held product ending reads done told =
    session_right old held told trace options product ending
    (read_form trace (ReplayGives trace options) never old new product ending reads done) done
reads_right (Decompress log) old new held product ending reads done told =
    let gives : GivesText log old product ending =
    read_form log (GivesText log) (BeginsText log) old new product ending reads done in
    holds_so old held told log (HaveText product.text gives.0) IsLog gives.3
    (text_right log product.text gives.0 (subst IsDone gives.1 done))
reads_right (Aggregate log id nth) old new held product ending reads done told =
    let gives : GivesTotals log id nth old product ending =
    read_form log (GivesTotals log id nth) never old new product ending reads done in
    holds_so old held told log (HaveAnswer id nth gives.0) (HasNumber id nth) gives.3
    (totals_right log id nth gives.0 (subst IsDone gives.1 done))
reads_right (Generate seed calls writers) old new held product ending reads done told = tt
reads_right (Selftest seed calls writers) old new held product ending reads done told = tt
reads_right (Schedule file) old new held product ending reads done told =
    let gives : GivesSteps file old product ending =
    read_form file (GivesSteps file) never old new product ending reads done in
    holds_so old held told file (λ bytes. ComesTo bytes (record { printed = product.text; refused = gives.0 }))
    IsSchedule gives.3 (steps_right file product.text gives.0 (subst IsDone gives.1 done))
reads_right (Migrate log output) old new held product ending reads done told =
    let gives : GivesMigrated log old product ending =
    read_form log (GivesMigrated log) never old new product ending reads done in
    holds_so old held told log (HaveMigration [] gives.1 gives.0) IsMigratable gives.4
    (migration_right log gives.1 gives.0 (subst IsDone gives.2 done))
reads_right (Inject dictionary source output) old new held product ending reads done told =
    inject_right dictionary source output old new held product ending reads done told
reads_right (Header dictionary output) old new held product ending reads done told =
    header_right old held told dictionary product ending
    (read_form dictionary (GivesHeader dictionary) never old new product ending reads done) done

-- a command that is done completes
completes_done : (task : Task) (old new : Scene) (ending : Ending) → CommandEffect task old new ending → IsDone ending
    → Completes task old new ending
completes_done task old new Done effect done = effect
completes_done task old new (StillOpen name numbers) effect done = effect
completes_done task old new ending effect done = absurd cc

pub done_right : (command : Command) (old new : Scene) (ending : Ending)
    → CommandEffect (task_of command) old new ending → IsDone ending
    → (held : Held) → old.desk.held ≡ Some held → (task_of command).right old.desk
done_right command old new ending effect done held told =
    let whole = completes_done (task_of command) old new ending effect done in
    reads_right command old.desk whole.read held whole.product ending whole.reading done told
