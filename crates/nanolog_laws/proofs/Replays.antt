-- What `decompress` gives of a log that `replay` wrote.
use Rattle.std.proofs.Common.{◌≡◌, ◌≢◌, ℕ, zero, suc, ◌+◌, ◌<◌, ◌≤◌, Bool, false, cond, List, [], ◌∷◌, length, Option, Some, None, Result, Ok, Err, refl, sym, ap, subst, ◌∙◌, inl, inr, arith}
use Rattle.std.specs.Prelude.{◌⊎◌, not, filter, IfSome, is_some, option_map, ⊤}
use Rattle.std.specs.List.{list_any, range_with_len}
use Rattle.std.specs.FinMap as map
use Rattle.std.proofs.lemmas.Option.{MatchOption-at_some, same_Some}
use Rattle.nl_io.specs.Count.{Rose}
use Rattle.nl_io.specs.Content.{with_end}
use Rattle.nl_io.specs.Desk.{Desk, Held, found_in}
use Rattle.log_dictionary.specs.declared.severity.Severity.TheVariants as severities
use Rattle.arg_records.specs.declared.call.Call.{Call}
use Rattle.checkpoint_io.specs.declared.heads.TheConstants.{MAX_LOG}
use Rattle.checkpoint_io.specs.Blocks.{Block}
use Rattle.checkpoint_io.specs.Validity.{IsClosed, closes}
use Rattle.checkpoint_io.proofs.lemmas.FrontLaws.{one_front, whole_is_front}
use Rattle.decompressor.specs.declared.report.Report.{Report}
use Rattle.decompressor.specs.declared.fault.DecodeFault.{DecodeFault}
use Rattle.decompressor.specs.declared.fault.DecodeFault.TheVariants as faults
use Rattle.decompressor.specs.Decompressing.{IsTextOfWhole}
use Rattle.decompressor.specs.Settling.{open_writers}
use Rattle.decompressor.proofs.lemmas.DecompressionLaws.{one_text}
use Rattle.decompressor.proofs.lemmas.TextLaws.{log_is_text}
use Rattle.trace_text.specs.Recordings.{Recording, IsRecording}
use Rattle.trace_text.specs.Traces.{TraceText}
use Rattle.trace_text.proofs.lemmas.ToldApart.{one_run}
use Rattle.session_options.specs.declared.options.Options.{Options}
use Rattle.session_options.specs.declared.options.Policy.TheVariants as policies
use Rattle.trace_session.specs.declared.drops.Dropped.{Dropped}
use Rattle.trace_session.specs.Drops.{Taken}
use Rattle.trace_session.specs.Sessions.{IsWholeLog}
use Rattle.command_base.specs.Endings.{Ending, Done, StillOpen, Usage, WriteFault, NoMemory, status_of}
use Rattle.command_base.specs.declared.status.Status.TheVariants as statuses
use Rattle.command_base.specs.HeldFiles.{Holds}
use Rattle.command_base.proofs.lemmas.HeldLaws.{such_is}
use Rattle.command_base.specs.Scenes.{Scene}
use Rattle.command_base.specs.Tasks.{Product}
use Rattle.command_base.specs.Effects.{Completes, CommandEffect}
use Rattle.command_base.proofs.lemmas.TaskLaws.{unfailed}
use Rattle.trace_commands.specs.Texts.{direct_text}
use Rattle.trace_commands.specs.Traces.{TraceRead}
use Rattle.trace_commands.specs.Tasks.{direct_task}
use Rattle.log_commands.specs.Logs.{IsLog}
use Rattle.log_commands.specs.Decompressing.{whole_ending, log_ending, HaveText, decompress_task}
use Rattle.log_commands.proofs.lemmas.Soundness.{not_damaged, decompress_sound}
use Rattle.session_commands.specs.Headline.{taken_text, LogLawful, TextSame}
use Rattle.session_commands.specs.Replays.{replay_task}
use Rattle.session_commands.proofs.lemmas.Headlines.{only_log}
use Rattle.session_commands.proofs.lemmas.WholeRuns.{whole_text}

-- the log of a run stands for its lines
pub lawful_text : (new : Desk) (log : List ℕ) (run : Recording) (options : Options) (drops : List Dropped)
    (bytes : List ℕ) → LogLawful new log run options drops bytes → TextSame run options drops bytes
lawful_text new log run options drops bytes lawful =
    log_is_text bytes (Taken run options.level drops) run.dictionary run.version run.clocks options.batch lawful.whole.lawful

-- ---- a log that is read again

-- of writers that are all closed none is open
none_open : (blocks : List Block) (from n : ℕ) → ((writer : ℕ) → writer < from + n → IsClosed writer blocks)
    → filter (λ writer. not (list_any (closes writer) blocks)) (range_with_len from n) ≡ []
none_open blocks from zero closed = refl
none_open blocks from (suc n) closed =
    let others : List ℕ = filter (λ writer. not (list_any (closes writer) blocks)) (range_with_len (from + 1) n) in
    ap (λ (b : Bool). cond (not b) (from ∷ others) others) (closed from (omega arith))
    ∙ none_open blocks (from + 1) n (λ writer within. closed writer (omega (arith, within)))

-- the log of a session is one that is read, where it isn't too long
session_is_log : (run : Recording) (batch : ℕ) (taken : List (List Call)) (bytes : List ℕ)
    → IsWholeLog run batch taken bytes → length bytes ≤ MAX_LOG → IsLog bytes
session_is_log run batch taken bytes log within = record {
  header = log.lawful.header;
  blocks = log.lawful.blocks;
  file = log.lawful.file;
  valid = log.lawful.valid;
  within = within;
}

-- none of its writers is open
closed_all : (run : Recording) (batch : ℕ) (taken : List (List Call)) (bytes text : List ℕ) (report : Report)
    → IsWholeLog run batch taken bytes → IsTextOfWhole bytes text report → report.unclosed ≡ []
closed_all run batch taken bytes text report log is =
    let lawful = log.lawful in
    let front = whole_is_front lawful.header lawful.blocks bytes lawful.file lawful.valid in
    let same = one_front bytes is.part.header lawful.header is.part.blocks lawful.blocks (length bytes) (length bytes) is.scanned.front front in
    is.unclosed
    ∙ (λ i. open_writers (same.0 i) (same.1 i))
    ∙ none_open lawful.blocks 0 lawful.header.writers
    (λ writer within. log.closed writer (omega (arith, within, lawful.writers_are)))

module _ (log : List ℕ) (options : Options) (run : Recording) (drops : List Dropped) (bytes : List ℕ) (old new : Scene)
    (held : Held) (lawful : LogLawful old.desk log run options drops bytes) (within : length bytes ≤ MAX_LOG)
    (told : old.desk.held ≡ Some held) where
  -- the log's name holds its bytes, which are right
  abbrev right : Holds old.desk log IsLog
  right = record {
    held = held;
    bytes = bytes;
    told = told;
    there = MatchOption-at_some ⊤ (λ (names : Held). map.get names log ≡ Some bytes) held told lawful.held;
    formed = session_is_log run options.batch (Taken run options.level drops) bytes lawful.whole within;
  }

  -- no other answer than the lines of the calls that were taken, and no writer that is open
  whole_answer : (text : List ℕ) (answer : Result Report DecodeFault) → HaveText text answer bytes
      → (log_ending log answer ≡ Done) × (text ≡ taken_text run options.level drops)
  whole_answer text (Ok report) is = (
    ap (whole_ending log) (closed_all run options.batch (Taken run options.level drops) bytes text report lawful.whole is),
    one_text bytes text (taken_text run options.level drops) is.decompressed
        (lawful_text old.desk log run options drops bytes lawful),
  )
  whole_answer text (Err (faults.Damaged offset cause)) is = absurd (not_damaged bytes text offset cause right.formed is)
  whole_answer text (Err fault) is = absurd is

  told_whole : (ending : Ending) (text : List ℕ) (answer : Result Report DecodeFault) → ending ≡ log_ending log answer
      → HaveText text answer bytes → new.put ≡ with_end text old.put
      → (ending ≡ Done) × (new.put ≡ with_end (taken_text run options.level drops) old.put)
  told_whole ending text answer is have put =
      let found = whole_answer text answer have in
      (is ∙ found.0, put ∙ ap (λ (t : List ℕ). with_end t old.put) found.1)

  -- where all was done
  done_told : (ending : Ending) → CommandEffect (decompress_task log) old new ending → status_of ending ≡ statuses.Done
      → (ending ≡ Done) × (new.put ≡ with_end (taken_text run options.level drops) old.put)
  done_told Done effect done =
      let given = effect.reading.2 in
      told_whole Done effect.product.text given.0 given.1
      (such_is old.desk log IsLog (HaveText effect.product.text given.0) right given.3) effect.printed
  done_told (StillOpen name numbers) effect done =
      let given = effect.reading.2 in
      told_whole (StillOpen name numbers) effect.product.text given.0 given.1
      (such_is old.desk log IsLog (HaveText effect.product.text given.0) right given.3) effect.printed
  done_told ending effect done = absurd cc

  -- a command that completes was done
  completes_told : (ending : Ending) → ((name : List ℕ) → ending ≢ WriteFault name)
      → CommandEffect (decompress_task log) old new ending
      → (whole : Completes (decompress_task log) old new ending) → ¬ (Rose old.desk.read_faults new.desk.read_faults)
      → ((ending ≡ Done) × (new.put ≡ with_end (taken_text run options.level drops) old.put)) ⊎ (ending ≡ NoMemory)
  completes_told ending unbroken effect whole r =
      elim ((decompress_sound log).done old.desk whole.read whole.product ending whole.reading right
      (unfailed whole.product.made None old.desk whole.read new.desk whole.made r) unbroken) [
        | inl done ↦ inl (done_told ending effect done)
        | inr wants ↦ inr wants
      ]

  -- it prints the lines of the calls that were taken, and tells of no writer that is open
  read_again : (ending : Ending) → CommandEffect (decompress_task log) old new ending
      → ¬ (Rose old.desk.read_faults new.desk.read_faults) → ¬ (Rose old.faults new.faults)
      → ((ending ≡ Done) × (new.put ≡ with_end (taken_text run options.level drops) old.put)) ⊎ (ending ≡ NoMemory)
  read_again (WriteFault name) (inl cut) r o = absurd (o cut.1.rose)
  read_again (WriteFault name) (inr lost) r o = let no : None ≡ Some name = lost.output in absurd cc
  read_again NoMemory effect r o = inr refl
  read_again (Usage lines) effect r o = absurd effect
  read_again ending effect r o = completes_told ending (λ name e. cc) effect effect r

pub replayed : (log : List ℕ) (options : Options) (run : Recording) (drops : List Dropped) (bytes : List ℕ)
    (old new : Scene) (ending : Ending) (held : Held) → LogLawful old.desk log run options drops bytes
    → length bytes ≤ MAX_LOG → old.desk.held ≡ Some held → CommandEffect (decompress_task log) old new ending
    → ¬ (Rose old.desk.read_faults new.desk.read_faults) → ¬ (Rose old.faults new.faults)
    → ((ending ≡ Done) × (new.put ≡ with_end (taken_text run options.level drops) old.put)) ⊎ (ending ≡ NoMemory)
replayed log options run drops bytes old new ending held lawful within told effect r o =
    read_again log options run drops bytes old new held lawful within told ending effect r o

-- ---- a replay in which all calls are taken

told_too : (told : Option Held) (other : Option Held) (held : Held) → is_some other ≡ is_some told → other ≡ Some held
    → (names : Held) × (told ≡ Some names)
told_too None other held same is = absurd (let none : is_some (Some held) ≡ false = sym (ap is_some is) ∙ same in cc)
told_too (Some names) other held same is = (names, refl)

-- what is told of a name
told_in : (told : Option Held) (name : List ℕ) (found : Option (List ℕ))
    → option_map (λ (names : Held). map.get names name) told ≡ Some found
    → (held : Held) × (told ≡ Some held) × (map.get held name ≡ found)
told_in None name found is = absurd cc
told_in (Some held) name found is = (held, refl, same_Some (map.get held name) found is)

-- two runs that one name gave, which held the same, are one
same_run : (old other : Desk) (trace : List ℕ) (held : Held) (a b : Recording) → old.held ≡ Some held
    → found_in other trace ≡ found_in old trace → TraceRead old trace a → TraceRead other trace b
    → (a ≡ b) × IsRecording a
same_run old other trace held a b told same read again =
    let first = MatchOption-at_some ⊤ (λ (names : Held). (bytes : List ℕ) × (map.get names trace ≡ Some bytes) × TraceText bytes a) held told read in
    let there : found_in other trace ≡ Some (Some first.0) =
    same ∙ ap (option_map (λ (names : Held). map.get names trace)) told ∙ ap Some first.1 in
    let found = told_in other.held trace (Some first.0) there in
    let second = MatchOption-at_some ⊤ (λ (names : Held). (bytes : List ℕ) × (map.get names trace ≡ Some bytes) × TraceText bytes b) found.0 found.1 again in
    let bytes_are : second.0 ≡ first.0 = same_Some second.0 first.0 (sym second.1 ∙ found.2) in
    (one_run first.0 a b first.2 (subst (λ (bytes : List ℕ). TraceText bytes b) bytes_are second.2), first.2.recorded)

-- decompressing the log prints what `direct` prints
pub as_direct : (trace log : List ℕ) (options : Options) (before after : Scene)
    → CommandEffect (replay_task trace log options) before after Done → options.policy ≡ policies.Wait
    → options.level ≡ severities.Debug
    → (bytes : List ℕ) → found_in after.desk log ≡ Some (Some bytes) → length bytes ≤ MAX_LOG
    → (direct_old direct_new : Scene) → found_in direct_old.desk trace ≡ found_in before.desk trace
    → CommandEffect (direct_task trace) direct_old direct_new Done
    → (old new : Scene) (ending : Ending) → found_in old.desk log ≡ found_in after.desk log
    → CommandEffect (decompress_task log) old new ending
    → ¬ (Rose old.desk.read_faults new.desk.read_faults) → ¬ (Rose old.faults new.faults)
    → (text : List ℕ) × (direct_new.put ≡ with_end text direct_old.put)
    × (((ending ≡ Done) × (new.put ≡ with_end text old.put)) ⊎ (ending ≡ NoMemory))
as_direct trace log options before after whole waits all bytes there within direct_old direct_new same_trace direct old new ending same_log effect r o =
    let given = whole.reading.2 in
    let run = given.run in
    let drops = given.drops in
    let made = only_log trace log options before after whole in
    let lines = direct.reading.2 in
    let left = told_in after.desk.held log (Some bytes) there in
    let earlier = told_too before.desk.held after.desk.held left.0 made.1.told left.1 in
    let same = same_run before.desk direct_old.desk trace earlier.0 run lines.0 earlier.1 same_trace given.trace_read lines.1 in
    let text = direct_text lines.0 in
    let text_is : text ≡ taken_text run options.level drops =
    ap direct_text (sym same.0) ∙ sym (whole_text run options.level drops same.1 all (given.session.waits waits)) in
    let bytes_are : given.bytes ≡ bytes =
    same_Some given.bytes bytes (sym (MatchOption-at_some ⊤ (λ (names : Held). map.get names log ≡ Some given.bytes) left.0 left.1 made.0) ∙ left.2) in
    let short : length given.bytes ≤ MAX_LOG = omega (arith, ap length bytes_are, within) in
    let found = told_in old.desk.held log (Some bytes) (same_log ∙ there) in
    let lawful : LogLawful old.desk log run options drops given.bytes =
    record {
      held = subst (λ (told : Option Held). IfSome told (λ names. map.get names log ≡ Some given.bytes)) (sym found.1)
          (found.2 ∙ ap Some (sym bytes_are));
      whole = given.session.whole;
    } in (
      text,
      direct.printed ∙ ap (λ (p : Product). with_end p.text direct_old.put) lines.2,
      subst (λ (t : List ℕ). ((ending ≡ Done) × (new.put ≡ with_end t old.put)) ⊎ (ending ≡ NoMemory)) (sym text_is)
          (replayed log options run drops given.bytes old new ending found.0 lawful short found.1 effect r o),
    )
