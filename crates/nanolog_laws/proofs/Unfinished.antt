-- What the ends of commands say where not all was done.
use Rattle.std.proofs.Common.{◌≡◌, ◌≢◌, ℕ, List, [], ◌∷◌, map, Option, Some, None, Result, Ok, Err, refl, sym, ap, subst, ◌∙◌, inl, inr}
use Rattle.std.specs.Prelude.{◌⊎◌, Contains}
use Rattle.std.proofs.lemmas.List.Elements.{Contains-append_right}
use Rattle.std.proofs.lemmas.Option.{same_Some}
use Rattle.nl_io.specs.Count.{Rose}
use Rattle.nl_io.specs.Content.{with_end, PutsFront}
use Rattle.nl_io.specs.Desk.{Desk, IsAbsent, found_in}
use Rattle.session_options.specs.declared.options.Options.{Options}
use Rattle.aggregation.specs.declared.totals.Totals.{Totals}
use Rattle.aggregation.specs.declared.fault.AggregateFault.{AggregateFault}
use Rattle.aggregation.specs.declared.fault.AggregateFault.TheVariants as totals_faults
use Rattle.decompressor.specs.declared.report.Report.{Report}
use Rattle.decompressor.specs.declared.fault.DecodeFault.{DecodeFault}
use Rattle.decompressor.specs.declared.fault.DecodeFault.TheVariants as text_faults
use Rattle.log_dictionary.specs.declared.message.Message.{Message}
use Rattle.log_migration.specs.declared.fault.MigrateFault.{MigrateFault}
use Rattle.schedule_text.specs.declared.cause.ScheduleCause.{ScheduleCause}
use Rattle.trace_text.specs.Dictionaries.{DictionaryBreak}
use Rattle.trace_text.specs.Recordings.{Recording}
use Rattle.trace_session.specs.declared.drops.Dropped.{Dropped}
use Rattle.cli_words.specs.Commands.{Command, Preprocess, Direct, Replay, Decompress, Aggregate, Generate, Selftest, Schedule, Migrate, Inject, Header}
use Rattle.cli_words.specs.Usage.{usage_text}
use Rattle.command_base.specs.Endings.{Ending, Done, StillOpen, Usage, Absent, ReadFault, Refused, RefusedSources, Damaged, WriteFault, NoMemory}
use Rattle.command_base.specs.Effects.{IsMade, Completes, StopsPrinting, WantsMemory, CommandEffect}
use Rattle.command_base.proofs.lemmas.EffectLaws.{put_nothing}
use Rattle.command_base.specs.HeldFiles.{IsHeld}
use Rattle.command_base.specs.Readings.{Form, Begun, never, GivesNoBytes, ReadsFile, file_task, pair_task, ReadsNone, free_task}
use Rattle.command_base.specs.Scenes.{Scene}
use Rattle.command_base.specs.Soundness.{IsSound}
use Rattle.command_base.proofs.lemmas.SoundTasks.{has_first, has_second}
use Rattle.command_base.specs.Tasks.{Product, nothing, Course, WhileReading, UntilBegun, WhilePrinting, Streaming, Task}
use Rattle.command_base.specs.Words.{standard_output}
use Rattle.source_commands.specs.Sources.{source_name, IsReached, ReadsSources, source_task}
use Rattle.preprocessor.specs.Findings.{SourceFile}
use Rattle.trace_commands.specs.Traces.{IsRefusedText}
use Rattle.trace_commands.specs.Tasks.{GivesLines}
use Rattle.dictionary_commands.specs.Heading.{GivesHeader}
use Rattle.dictionary_commands.specs.Injecting.{GivesInjected}
use Rattle.log_commands.specs.Decompressing.{whole_ending, log_ending, GivesText, BeginsText}
use Rattle.log_commands.specs.Aggregating.{totals_told, totals_text, totals_ending, GivesTotals}
use Rattle.log_commands.specs.Migrating.{migration_ending, migration_product, GivesMigrated}
use Rattle.schedule_commands.specs.Tasks.{verdict_of, GivesSteps}
use Rattle.session_commands.specs.Headline.{HeadlineCut}
use Rattle.session_commands.specs.Replays.{ReplayGives, replay_task}
use Rattle.nanolog_cli.specs.Outcomes.{task_of, Answers}
use Rattle.nanolog_laws.specs.Unfinished.{IsRefusedEnding, IsCutShort, ComesWithText, PrintsFront, HoldsCutLog}
use Rattle.nanolog_laws.proofs.Commands.{task_sound}

-- ---- what is asked of a task

-- Where it isn't done nothing is made, and no text is printed but where one comes with the end. An input that is told
-- to be absent is so, and a read failed where that is told.
record SaysWhy (task : Task) (Comes : Ending → Type 0) : Type 0 where
  unmade : (old new : Desk) (product : Product) (ending : Ending) → task.reads old new product ending
      → IsRefusedEnding ending → product.made ≡ None
  untold : (old new : Desk) (product : Product) (ending : Ending) → task.reads old new product ending
      → IsRefusedEnding ending → ¬ (Comes ending) → product.text ≡ []
  lacks : (old new : Desk) (product : Product) (name : List ℕ) → task.reads old new product (Absent name)
      → Contains task.inputs name × IsAbsent old name
  fails : (old new : Desk) (product : Product) (name : List ℕ) → task.reads old new product (ReadFault name)
      → Contains task.inputs name × Rose old.read_faults new.read_faults

-- the same of what a file gives
record FormSaysWhy (form : Form) (begun : Begun) (Comes : Ending → Type 0) : Type 0 where
  unmade : (desk : Desk) (product : Product) (ending : Ending) → form desk product ending → IsRefusedEnding ending
      → product.made ≡ None
  untold : (desk : Desk) (product : Product) (ending : Ending) → form desk product ending → IsRefusedEnding ending
      → ¬ (Comes ending) → product.text ≡ []
  begins : (desk : Desk) (text name : List ℕ) → begun (ReadFault name) desk text → Comes (ReadFault name)

-- nothing comes of what isn't right
nothing_comes : (form : Form) (Comes : Ending → Type 0)
    → ((desk : Desk) (product : Product) (ending : Ending) → form desk product ending → IsRefusedEnding ending
    → product ≡ nothing) → FormSaysWhy form never Comes
nothing_comes form Comes none = record {
  unmade = λ desk product ending gives is. ap (λ (p : Product). p.made) (none desk product ending gives is);
  untold = λ desk product ending gives is not. ap (λ (p : Product). p.text) (none desk product ending gives is);
  begins = λ desk text name begun. absurd begun;
}

-- ---- one input

-- what came of an input that isn't right, or couldn't be read
data CameOf (form : Form) (begun : Begun) (old : Desk) (product : Product) (ending : Ending) : Type 0 where
  came_nothing : product ≡ nothing → CameOf form begun old product ending
  came_part : product.made ≡ None → (name : List ℕ) → begun (ReadFault name) old product.text
      → ending ≡ ReadFault name → CameOf form begun old product ending
  came_whole : form old product ending → CameOf form begun old product ending

came_of : (input : List ℕ) (form : Form) (begun : Begun) (old new : Desk) (product : Product) (ending : Ending)
    → ReadsFile input form begun old new product ending → IsRefusedEnding ending → CameOf form begun old product ending
came_of input form begun old new product Done reads is = absurd is
came_of input form begun old new product (StillOpen name numbers) reads is = absurd is
came_of input form begun old new product (Usage lines) reads is = absurd reads
came_of input form begun old new product (Absent name) reads is = came_nothing reads.1
came_of input form begun old new product (ReadFault name) reads is =
    elim reads.1 [ inl none ↦ came_nothing none | inr some ↦ came_part some.0 name some.1 refl ]
came_of input form begun old new product (Refused name line cause) reads is = came_whole reads.2
came_of input form begun old new product (RefusedSources lines) reads is = came_whole reads.2
came_of input form begun old new product (Damaged name offset cause) reads is = came_whole reads.2
came_of input form begun old new product (WriteFault name) reads is = absurd is
came_of input form begun old new product NoMemory reads is = absurd is

module _ (form : Form) (begun : Begun) (Comes : Ending → Type 0) (says : FormSaysWhy form begun Comes) where
  came_unmade : (old : Desk) (product : Product) (ending : Ending) → CameOf form begun old product ending
      → IsRefusedEnding ending → product.made ≡ None
  came_unmade old product ending (came_nothing same) is = ap (λ (p : Product). p.made) same
  came_unmade old product ending (came_part made name text fails) is = made
  came_unmade old product ending (came_whole gives) is = says.unmade old product ending gives is

  came_untold : (old : Desk) (product : Product) (ending : Ending) → CameOf form begun old product ending
      → IsRefusedEnding ending → ¬ (Comes ending) → product.text ≡ []
  came_untold old product ending (came_nothing same) is not = ap (λ (p : Product). p.text) same
  came_untold old product ending (came_part made name text fails) is not =
      absurd (not (subst Comes (sym fails) (says.begins old product.text name text)))
  came_untold old product ending (came_whole gives) is not = says.untold old product ending gives is not

-- an input that is told to be absent is one of the inputs, and so is one that couldn't be read
absent_input : (names : List (List ℕ)) (input name : List ℕ) (old new : Desk) → Contains names input
    → GivesNoBytes input old new (Absent name) → Contains names name × IsAbsent old name
absent_input names input name old new among (named, same, lacks) = (
  subst (Contains names) (sym named) among,
  subst (IsAbsent old) (sym named) lacks,
)

unread_input : (names : List (List ℕ)) (input name : List ℕ) (old new : Desk) → Contains names input
    → GivesNoBytes input old new (ReadFault name) → Contains names name × Rose old.read_faults new.read_faults
unread_input names input name old new among (named, only, rose) = (subst (Contains names) (sym named) among, rose)

file_says : (input : List ℕ) (course : Course) (form : Form) (begun : Begun) (is_right : List ℕ → Type 0)
    (output : Option (List ℕ)) (leaves : Desk → List ℕ → Type 0) (Comes : Ending → Type 0)
    → FormSaysWhy form begun Comes → SaysWhy (file_task input course form begun is_right output leaves) Comes
file_says input course form begun is_right output leaves Comes says = record {
  unmade = λ old new product ending reads is.
      came_unmade form begun Comes says old product ending
      (came_of input form begun old new product ending reads is) is;
  untold = λ old new product ending reads is not.
      came_untold form begun Comes says old product ending
      (came_of input form begun old new product ending reads is) is not;
  lacks = λ old new product name reads. absent_input (input ∷ []) input name old new (has_first input []) reads.0;
  fails = λ old new product name reads. unread_input (input ∷ []) input name old new (has_first input []) reads.0;
}

-- ---- two inputs

module _ {V : Type 0} (first second : List ℕ) (refuses : Form) (has : Desk → V → Type 0) (form : V → Form)
    (output : Option (List ℕ)) (right : Desk → Type 0) (Comes : Ending → Type 0)
    (first_says : FormSaysWhy refuses never Comes)
    (second_says : (value : V) → FormSaysWhy (form value) never Comes) where
  abbrev pair : Task
  pair = pair_task first second refuses has form output right

  pair_unmade : (old new : Desk) (product : Product) (ending : Ending) → pair.reads old new product ending
      → IsRefusedEnding ending → product.made ≡ None
  pair_unmade old new product ending (inl reads) is =
      came_unmade refuses never Comes first_says old product ending
      (came_of first refuses never old new product ending reads is) is
  pair_unmade old new product ending (inr (value, found, reads)) is =
      came_unmade (form value) never Comes (second_says value) old product ending
      (came_of second (form value) never old new product ending reads is) is

  pair_untold : (old new : Desk) (product : Product) (ending : Ending) → pair.reads old new product ending
      → IsRefusedEnding ending → ¬ (Comes ending) → product.text ≡ []
  pair_untold old new product ending (inl reads) is not =
      came_untold refuses never Comes first_says old product ending
      (came_of first refuses never old new product ending reads is) is not
  pair_untold old new product ending (inr (value, found, reads)) is not =
      came_untold (form value) never Comes (second_says value) old product ending
      (came_of second (form value) never old new product ending reads is) is not

  pair_lacks : (old new : Desk) (product : Product) (name : List ℕ) → pair.reads old new product (Absent name)
      → Contains pair.inputs name × IsAbsent old name
  pair_lacks old new product name (inl reads) =
      absent_input pair.inputs first name old new (has_first first (second ∷ [])) reads.0
  pair_lacks old new product name (inr (value, found, reads)) =
      absent_input pair.inputs second name old new (has_second first second) reads.0

  pair_fails : (old new : Desk) (product : Product) (name : List ℕ) → pair.reads old new product (ReadFault name)
      → Contains pair.inputs name × Rose old.read_faults new.read_faults
  pair_fails old new product name (inl reads) =
      unread_input pair.inputs first name old new (has_first first (second ∷ [])) reads.0
  pair_fails old new product name (inr (value, found, reads)) =
      unread_input pair.inputs second name old new (has_second first second) reads.0

  pair_says : SaysWhy pair Comes
  pair_says = record { unmade = pair_unmade; untold = pair_untold; lacks = pair_lacks; fails = pair_fails }

-- ---- no input

free_done : (gives : Product → Type 0) (old new : Desk) (product : Product) (ending : Ending)
    → ReadsNone gives old new product ending → ¬ (IsRefusedEnding ending)
free_done gives old new product Done reads is = is
free_done gives old new product NoMemory reads is = is
free_done gives old new product ending reads is = reads

free_says : (course : Course) (gives : Product → Type 0) (Comes : Ending → Type 0)
    → SaysWhy (free_task course gives) Comes
free_says course gives Comes = record {
  unmade = λ old new product ending reads is. absurd (free_done gives old new product ending reads is);
  untold = λ old new product ending reads is not. absurd (free_done gives old new product ending reads is);
  lacks = λ old new product name reads. absurd reads;
  fails = λ old new product name reads. absurd reads;
}

-- ---- sources

reached_among : (names : List (List ℕ)) (desk : Desk) (name : List ℕ) → IsReached desk names name → Contains names name
reached_among names desk name is =
    subst (λ (l : List (List ℕ)). Contains l name) (sym is.read.named)
    (Contains-append_right (map source_name is.sources) (name ∷ is.others) name
    (has_first name is.others))

nothing_of_sources : (names : List (List ℕ)) (gives : List SourceFile → Product → Type 0) (old new : Desk)
    (product : Product) (ending : Ending) → ReadsSources names gives old new product ending → IsRefusedEnding ending
    → product ≡ nothing
nothing_of_sources names gives old new product Done reads is = absurd is
nothing_of_sources names gives old new product ending reads is = reads.1

sources_say : (names : List (List ℕ)) (output : Option (List ℕ)) (gives : List SourceFile → Product → Type 0)
    (Comes : Ending → Type 0) → SaysWhy (source_task names output gives) Comes
sources_say names output gives Comes = record {
  unmade = λ old new product ending reads is.
      ap (λ (p : Product). p.made) (nothing_of_sources names gives old new product ending reads is);
  untold = λ old new product ending reads is not.
      ap (λ (p : Product). p.text) (nothing_of_sources names gives old new product ending reads is);
  lacks = λ old new product name reads. (reached_among names old name reads.0.0, reads.0.1);
  fails = λ old new product name reads. (reached_among names old name reads.0.0, reads.0.2);
}

-- ---- each command's

lines_nothing : (trace : List ℕ) (desk : Desk) (product : Product) (ending : Ending)
    → GivesLines trace desk product ending → IsRefusedEnding ending → product ≡ nothing
lines_nothing trace desk product Done gives is = absurd is
lines_nothing trace desk product (Refused name line cause) gives is = gives.1
lines_nothing trace desk product ending gives is = absurd gives

session_nothing : (trace : List ℕ) (options : Options) (desk : Desk) (product : Product) (ending : Ending)
    → ReplayGives trace options desk product ending → IsRefusedEnding ending → product ≡ nothing
session_nothing trace options desk product Done gives is = absurd is
session_nothing trace options desk product (Refused name line cause) (inl refused) is = refused.1
session_nothing trace options desk product (Refused name line cause) (inr refused) is = refused.nothing_came
session_nothing trace options desk product ending gives is = absurd gives

header_nothing : (dictionary : List ℕ) (desk : Desk) (product : Product) (ending : Ending)
    → GivesHeader dictionary desk product ending → IsRefusedEnding ending → product ≡ nothing
header_nothing dictionary desk product Done gives is = absurd is
header_nothing dictionary desk product (Refused name line cause) gives is = gives.1
header_nothing dictionary desk product ending gives is = absurd gives

dictionary_nothing : (dictionary : List ℕ) (desk : Desk) (product : Product) (ending : Ending)
    → IsRefusedText DictionaryBreak dictionary desk product ending → IsRefusedEnding ending → product ≡ nothing
dictionary_nothing dictionary desk product (Refused name line cause) gives is = gives.1
dictionary_nothing dictionary desk product ending gives is = absurd gives

injected_nothing : (source : List ℕ) (messages : List Message) (desk : Desk) (product : Product) (ending : Ending)
    → GivesInjected source messages desk product ending → IsRefusedEnding ending → product ≡ nothing
injected_nothing source messages desk product Done gives is = absurd is
injected_nothing source messages desk product (RefusedSources lines) gives is = gives.3
injected_nothing source messages desk product (Refused name line cause) gives is = gives.1
injected_nothing source messages desk product ending gives is = absurd gives

whole_is_done : (log unclosed : List ℕ) → ¬ (IsRefusedEnding (whole_ending log unclosed))
whole_is_done log [] is = is
whole_is_done log (writer ∷ writers) is = is

text_comes : (log : List ℕ) (answer : Result Report DecodeFault) → IsRefusedEnding (log_ending log answer)
    → ComesWithText (Some (Decompress log)) (log_ending log answer)
text_comes log (Ok report) is = absurd (whole_is_done log report.unclosed is)
text_comes log (Err (text_faults.Damaged offset cause)) is = tt
text_comes log (Err text_faults.ReadFault) is = tt
text_comes log (Err fault) is = absurd is

totals_come : (log : List ℕ) (id nth : ℕ) (answer : Result Totals AggregateFault) → IsRefusedEnding (totals_ending log answer)
    → ¬ (ComesWithText (Some (Aggregate log id nth)) (totals_ending log answer)) → totals_text (totals_told answer) ≡ []
totals_come log id nth (Ok totals) is not = absurd is
totals_come log id nth (Err (totals_faults.Damaged offset cause front)) is not = absurd (not tt)
totals_come log id nth (Err fault) is not = refl

migration_nothing : (log migrated : List ℕ) (answer : Result ℕ MigrateFault)
    → IsRefusedEnding (migration_ending log answer) → migration_product migrated answer ≡ nothing
migration_nothing log migrated (Ok count) is = absurd is
migration_nothing log migrated (Err fault) is = refl

migrated_nothing : (log : List ℕ) (desk : Desk) (product : Product) (ending : Ending)
    → GivesMigrated log desk product ending → IsRefusedEnding ending → product ≡ nothing
migrated_nothing log desk product ending (answer, migrated, told, is_made, have) is =
    is_made ∙ migration_nothing log migrated answer (subst IsRefusedEnding told is)

steps_come : (file : List ℕ) (refused : Option (ℕ × ScheduleCause)) → IsRefusedEnding (verdict_of file refused)
    → ComesWithText (Some (Schedule file)) (verdict_of file refused)
steps_come file None is = absurd is
steps_come file (Some (line, cause)) is = tt

text_says : (log : List ℕ) → FormSaysWhy (GivesText log) (BeginsText log) (ComesWithText (Some (Decompress log)))
text_says log = record {
  unmade = λ desk product ending (answer, told, made, have) is. made;
  untold = λ desk product ending (answer, told, made, have) is not.
      absurd (not (subst (ComesWithText (Some (Decompress log))) (sym told)
      (text_comes log answer (subst IsRefusedEnding told is))));
  begins = λ desk text name begun. tt;
}

totals_say : (log : List ℕ) (id nth : ℕ)
    → FormSaysWhy (GivesTotals log id nth) never (ComesWithText (Some (Aggregate log id nth)))
totals_say log id nth = record {
  unmade = λ desk product ending (answer, told, shown, have) is. ap (λ (p : Product). p.made) shown;
  untold = λ desk product ending (answer, told, shown, have) is not.
      ap (λ (p : Product). p.text) shown
      ∙ totals_come log id nth answer (subst IsRefusedEnding told is)
      (λ comes. not (subst (ComesWithText (Some (Aggregate log id nth))) (sym told) comes));
  begins = λ desk text name begun. absurd begun;
}

steps_say : (file : List ℕ) → FormSaysWhy (GivesSteps file) never (ComesWithText (Some (Schedule file)))
steps_say file = record {
  unmade = λ desk product ending (refused, told, made, comes) is. made;
  untold = λ desk product ending (refused, told, made, comes) is not.
      absurd (not (subst (ComesWithText (Some (Schedule file))) (sym told)
      (steps_come file refused (subst IsRefusedEnding told is))));
  begins = λ desk text name begun. absurd begun;
}

says_why : (command : Command) → SaysWhy (task_of command) (ComesWithText (Some command))
says_why (Preprocess dictionary sources) = sources_say _ _ _ _
says_why (Direct trace) = file_says _ _ _ _ _ _ _ _ (nothing_comes _ _ (lines_nothing trace))
says_why (Replay trace log options) = file_says _ _ _ _ _ _ _ _ (nothing_comes _ _ (session_nothing trace options))
says_why (Decompress log) = file_says _ _ _ _ _ _ _ _ (text_says log)
says_why (Aggregate log id nth) = file_says _ _ _ _ _ _ _ _ (totals_say log id nth)
says_why (Generate seed calls writers) = free_says _ _ _
says_why (Selftest seed calls writers) = free_says _ _ _
says_why (Schedule file) = file_says _ _ _ _ _ _ _ _ (steps_say file)
says_why (Migrate old new) = file_says _ _ _ _ _ _ _ _ (nothing_comes _ _ (migrated_nothing old))
says_why (Inject dictionary source output) =
    pair_says _ _ _ _ _ _ _ _ (nothing_comes _ _ (dictionary_nothing dictionary))
    (λ messages. nothing_comes _ _ (injected_nothing source messages))
says_why (Header dictionary output) = file_says _ _ _ _ _ _ _ _ (nothing_comes _ _ (header_nothing dictionary))

-- ---- the laws

-- an end whose reasons are the words or the inputs is that of a command that completes
completes_refusal : (task : Task) (old new : Scene) (ending : Ending) → CommandEffect task old new ending
    → IsRefusedEnding ending → Completes task old new ending
completes_refusal task old new Done effect is = absurd is
completes_refusal task old new (StillOpen name numbers) effect is = absurd is
completes_refusal task old new (Usage lines) effect is = absurd effect
completes_refusal task old new (WriteFault name) effect is = absurd is
completes_refusal task old new NoMemory effect is = absurd is
completes_refusal task old new ending effect is = effect

-- nothing was made then, and reading changes no name
read_held : (task : Task) (old read : Desk) (product : Product) (ending : Ending) → IsSound task
    → task.reads old read product ending → read.held ≡ old.held
read_held task old read product ending sound reads = elim (sound.changes old read product ending reads) [
  | inl same ↦ ap (λ (d : Desk). d.held) same
  | inr fails ↦ ap (λ (d : Desk). d.held) fails.only.same
]

command_held : (command : Command) (old new : Scene) (ending : Ending) → CommandEffect (task_of command) old new ending
    → IsRefusedEnding ending → new.desk.held ≡ old.desk.held
command_held command old new ending effect is =
    let task = task_of command in
    let whole = completes_refusal task old new ending effect is in
    let unmade = (says_why command).unmade old.desk whole.read whole.product ending whole.reading is in
    ap (λ (d : Desk). d.held)
    (subst (λ (m : Option (List ℕ)). IsMade m task.output whole.read new.desk) unmade whole.made)
    ∙ read_held task old.desk whole.read whole.product ending (task_sound command) whole.reading

command_put : (command : Command) (old new : Scene) (ending : Ending) → CommandEffect (task_of command) old new ending
    → IsRefusedEnding ending → ¬ (ComesWithText (Some command) ending) → new.put ≡ old.put
command_put command old new ending effect is not =
    let whole = completes_refusal (task_of command) old new ending effect is in
    let untold = (says_why command).untold old.desk whole.read whole.product ending whole.reading is not in
    whole.printed ∙ ap (λ (text : List ℕ). with_end text old.put) untold ∙ sym (put_nothing old.put)

-- what was asked for wasn't read, or it was no command, and all is as it was
pub same_held : (asked : Option Command) (old new : Scene) (ending : Ending) → Answers asked old new ending
    → IsRefusedEnding ending → new.desk.held ≡ old.desk.held
same_held asked old new ending (inl (wants, same)) is = ap (λ (s : Scene). s.desk.held) same
same_held None old new ending (inr (says, same)) is = ap (λ (s : Scene). s.desk.held) same
same_held (Some command) old new ending (inr effect) is = command_held command old new ending effect is

pub same_put : (asked : Option Command) (old new : Scene) (ending : Ending) → Answers asked old new ending
    → IsRefusedEnding ending → ¬ (ComesWithText asked ending) → new.put ≡ old.put
same_put asked old new ending (inl (wants, same)) is not = ap (λ (s : Scene). s.put) same
same_put None old new ending (inr (says, same)) is not = ap (λ (s : Scene). s.put) same
same_put (Some command) old new ending (inr effect) is not = command_put command old new ending effect is not

-- no words but those of no command are answered by how commands are written
command_usage : (command : Command) (old new : Scene) (lines : List ℕ)
    → ¬ (Answers (Some command) old new (Usage lines))
command_usage command old new lines (inl (wants, same)) = cc
command_usage command old new lines (inr effect) = effect

pub no_command : (asked : Option Command) (old new : Scene) (lines : List ℕ) → Answers asked old new (Usage lines)
    → asked ≡ None
no_command None old new lines answers = refl
no_command (Some command) old new lines answers = absurd (command_usage command old new lines answers)

pub words_told : (old new : Scene) (ending : Ending) → Answers None old new ending
    → ((ending ≡ Usage usage_text) ⊎ (ending ≡ NoMemory)) × (new ≡ old)
words_told old new ending (inl (wants, same)) = (inr wants, same)
words_told old new ending (inr (says, same)) = (inl says, same)

pub lacking : (command : Command) (old new : Scene) (name : List ℕ)
    → CommandEffect (task_of command) old new (Absent name)
    → Contains (task_of command).inputs name × IsAbsent old.desk name
lacking command old new name effect = (says_why command).lacks old.desk effect.read effect.product name effect.reading

-- the count of failed reads is that after reading
read_faults_are : (made output : Option (List ℕ)) (read new : Desk) → IsMade made output read new
    → new.read_faults ≡ read.read_faults
read_faults_are None output read new is = ap (λ (d : Desk). d.read_faults) is
read_faults_are (Some bytes) (Some name) read new is = is.1.read_faults
read_faults_are (Some bytes) None read new is = absurd is

pub failing : (command : Command) (old new : Scene) (name : List ℕ)
    → CommandEffect (task_of command) old new (ReadFault name)
    → Contains (task_of command).inputs name × Rose old.desk.read_faults new.desk.read_faults
failing command old new name effect =
    let says = (says_why command).fails old.desk effect.read effect.product name effect.reading in (
      says.0,
      subst (Rose old.desk.read_faults)
          (sym (read_faults_are effect.product.made (task_of command).output effect.read new.desk effect.made)) says.1,
    )

-- ---- what is cut short

printing_front : (command : Command) (old new : Scene) → StopsPrinting (task_of command) old new
    → PrintsFront command old new
printing_front command old new stops = record {
  product = stops.product;
  read = stops.read;
  verdict = stops.verdict;
  reading = stops.reading;
  printed = stops.printed;
}

stopped_front : (command : Command) (course : Course) (old new : Scene) → WantsMemory course (task_of command) old new
    → (new.put ≡ old.put) ⊎ PrintsFront command old new
stopped_front command WhileReading old new stops = inl stops.unprinted
stopped_front command UntilBegun old new stops =
    elim stops [ inl reading ↦ inl reading.unprinted | inr begun ↦ inl begun.unprinted ]
stopped_front command WhilePrinting old new stops =
    elim stops [ inl reading ↦ inl reading.unprinted | inr printing ↦ inr (printing_front command old new printing) ]
stopped_front command Streaming old new stops =
    elim stops [ inl reading ↦ inl reading.unprinted | inr printing ↦ inr (printing_front command old new printing) ]

pub cut_front : (command : Command) (old new : Scene) (ending : Ending)
    → CommandEffect (task_of command) old new ending → IsCutShort ending
    → (new.put ≡ old.put) ⊎ PrintsFront command old new
cut_front command old new (WriteFault name) effect is = elim effect [
  | inl cut ↦ inr (record {
    product = cut.1.product;
    read = cut.1.read;
    verdict = cut.1.verdict;
    reading = cut.1.reading;
    printed = cut.1.printed;
  })
  | inr lost ↦ inl lost.unprinted
]
cut_front command old new NoMemory effect is = stopped_front command (task_of command).course old new effect
cut_front command old new ending effect is = absurd is

pub write_rose : (command : Command) (old new : Scene) (name : List ℕ)
    → CommandEffect (task_of command) old new (WriteFault name)
    → ((name ≡ standard_output) × Rose old.faults new.faults)
    ⊎ (((task_of command).output ≡ Some name) × Rose old.desk.write_faults new.desk.write_faults)
write_rose command old new name effect = elim effect [
  | inl cut ↦ inl (cut.0, cut.1.rose)
  | inr lost ↦ inr (lost.output, lost.failed)
]

pub replay_unprinted : (trace log : List ℕ) (options : Options) (old new : Scene)
    → CommandEffect (replay_task trace log options) old new NoMemory → new.put ≡ old.put
replay_unprinted trace log options old new effect =
    elim effect [ inl reading ↦ reading.unprinted | inr begun ↦ begun.unprinted ]

-- a session's text was cut off, and its log was written whole
replay_printed : (trace log : List ℕ) (options : Options) (old new : Scene) (read : Desk) (product : Product)
    → ReadsFile trace (ReplayGives trace options) never old.desk read product Done
    → IsMade product.made (Some log) read new.desk → PutsFront product.text old.put new.put
    → (run : Recording) × (drops : List Dropped) × (bytes : List ℕ)
    × HeadlineCut trace log options old new run drops bytes
replay_printed trace log options old new read product reading made printed =
    let given = reading.2 in
    let written = subst (λ (d : Desk). IsMade (Some given.bytes) (Some log) d new.desk) reading.0
    (subst (λ (m : Option (List ℕ)). IsMade m (Some log) read new.desk) given.made made) in (
      given.run,
      given.drops,
      given.bytes,
      record {
        trace_read = given.trace_read;
        output_cut = record {
          waits = given.session.waits;
          grew = subst (λ (text : List ℕ). PutsFront text old.put new.put) given.session.told printed;
        };
        log_lawful = record { held = written.0; whole = given.session.whole };
        text_same = given.session.text_same;
        drops_lawful = given.session.drops_lawful;
        others_untouched = written.1.held;
      },
    )

-- a text is only printed where a session was run
replay_cut : (trace log : List ℕ) (options : Options) (old new : Scene) (read : Desk) (product : Product)
    (verdict : Ending) → ReadsFile trace (ReplayGives trace options) never old.desk read product verdict
    → IsMade product.made (Some log) read new.desk → product.text ≢ [] → PutsFront product.text old.put new.put
    → (run : Recording) × (drops : List Dropped) × (bytes : List ℕ)
    × HeadlineCut trace log options old new run drops bytes
replay_cut trace log options old new read product Done reading made some printed =
    replay_printed trace log options old new read product reading made printed
replay_cut trace log options old new read product (StillOpen name numbers) reading made some printed =
    absurd reading.2
replay_cut trace log options old new read product (WriteFault name) reading made some printed = absurd reading.text
replay_cut trace log options old new read product NoMemory reading made some printed =
    absurd (some (ap (λ (p : Product). p.text) reading.1))
replay_cut trace log options old new read product verdict reading made some printed =
    absurd (some ((says_why (Replay trace log options)).untold old.desk read product verdict reading tt
    (λ comes. comes)))

pub headline_cut : (trace log name : List ℕ) (options : Options) (old new : Scene)
    → CommandEffect (replay_task trace log options) old new (WriteFault name)
    → ¬ (Rose old.desk.write_faults new.desk.write_faults)
    → (run : Recording) × (drops : List Dropped) × (bytes : List ℕ)
    × HeadlineCut trace log options old new run drops bytes
headline_cut trace log name options old new effect w = elim effect [
  | inl cut ↦
      replay_cut trace log options old new cut.1.read cut.1.product cut.1.verdict cut.1.reading cut.1.made cut.1.some
      cut.1.printed
  | inr lost ↦ absurd (w lost.failed)
]

-- ---- logs

pub log_lacks_memory : (trace log : List ℕ) (options : Options) (old new : Scene)
    → CommandEffect (replay_task trace log options) old new NoMemory
    → (found_in new.desk log ≡ found_in old.desk log) ⊎ IsHeld new.desk log []
log_lacks_memory trace log options old new effect = elim effect [
  | inl stops ↦ inl (ap (λ (d : Desk). found_in d log) stops.reading.0.0)
  | inr stops ↦ inr stops.emptied.0
]

pub log_cut : (trace log name : List ℕ) (options : Options) (old new : Scene)
    → CommandEffect (replay_task trace log options) old new (WriteFault name)
    → ((name ≡ standard_output) × Rose old.faults new.faults)
    ⊎ ((name ≡ log) × (new.put ≡ old.put) × HoldsCutLog trace log options old.desk new.desk)
log_cut trace log name options old new effect = elim effect [
  | inl printing ↦ inl (printing.0, printing.1.rose)
  | inr lost ↦
      let named : log ≡ name = same_Some log name lost.output in
      let (run, read, fit, front) = lost.leaves in
      let holds : HoldsCutLog trace log options old.desk new.desk = elim lost.holds [
        | inl same ↦ inl (subst (λ (n : List ℕ). found_in new.desk n ≡ found_in old.desk n) (sym named) same)
        | inr held ↦ inr (run, lost.bytes, read, subst (λ (n : List ℕ). IsHeld new.desk n lost.bytes) (sym named) held, front)
      ] in
      inr (sym named, lost.unprinted, holds)
]
