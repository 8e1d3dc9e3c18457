-- What the log of a session in memory gives.
use Rattle.std.proofs.Common.{◌≡◌, ◌≢◌, ℕ, ◌≤◌, List, [], ◌++◌, length, Some, Err, refl, sym, ap, subst, ◌∙◌}
use Rattle.std.specs.Prelude.{IfSome}
use Rattle.std.proofs.lemmas.Option.{same_Some}
use Rattle.nl_io.specs.Content.{Told, with_end}
use Rattle.arg_records.specs.declared.call.Call.{Call}
use Rattle.checkpoint_io.specs.declared.cause.Cause.{Cause}
use Rattle.checkpoint_io.proofs.lemmas.FrontLaws.{one_front, whole_is_front}
use Rattle.checkpoint_io.proofs.lemmas.BreakLaws.{whole_or_break}
use Rattle.decompressor.specs.declared.report.Report.{Report}
use Rattle.decompressor.specs.declared.fault.DecodeFault.{DecodeFault}
use Rattle.decompressor.specs.declared.fault.DecodeFault.TheVariants.{Damaged}
use Rattle.decompressor.specs.Decompression.{all_calls}
use Rattle.decompressor.specs.Decompressing.{IsTextOfWhole, IsTextOfDamaged, Decompresses}
use Rattle.decompressor.proofs.lemmas.DecompressionLaws.{one_text}
use Rattle.decompressor.proofs.lemmas.TextLaws.{log_is_text, taken_are}
use Rattle.trace_text.specs.Recordings.{Recording, IsRecording, calls_of}
use Rattle.trace_session.specs.declared.outcome.Outcome.{Outcome}
use Rattle.session_options.specs.declared.options.Options.{Options}
use Rattle.session_options.specs.Defaults.{default_options}
use Rattle.trace_session.specs.Drops.{Taken}
use Rattle.trace_session.specs.Sessions.{IsSession, IsWholeLog}
use Rattle.session_commands.specs.declared.selftesting.Summary.{Summary}
use Rattle.trace_generator.specs.Generated.{Generated}
use Rattle.nl_io.specs.Desk.{Desk}
use Rattle.command_base.specs.Endings.{Ending, NoMemory}
use Rattle.command_base.specs.Effects.{CommandEffect}
use Rattle.command_base.proofs.lemmas.EffectLaws.{nothing_came, printed_done}
use Rattle.command_base.specs.Printing.{Prints}
use Rattle.command_base.specs.Scenes.{Scene, scene}
use Rattle.command_base.specs.Tasks.{text_alone}
use Rattle.session_commands.specs.Selftests.{summary_of, summary_line, selftest_task}
use Rattle.session_commands.proofs.lemmas.Soundness.{selftest_sound}
use Rattle.trace_commands.specs.Texts.{direct_text}
use Rattle.session_commands.proofs.lemmas.WholeRuns.{taken_writers}

-- what was put into an empty sink
pub put_all : (old new bytes : List ℕ) → Some new ≡ with_end bytes (Some old) → old ≡ [] → new ≡ bytes
put_all old new bytes put none = same_Some new (old ++ bytes) put ∙ ap (λ (front : List ℕ). front ++ bytes) none

-- a session with the default options takes all calls
pub session_log : {D : Type 0} (sent got : D → List (List ℕ)) (run : Recording) (options : Options) (outcome : Outcome D) (bytes : List ℕ) → IsRecording run → options ≡ default_options → IsSession sent got run options outcome bytes
    → IsWholeLog run default_options.batch run.writers bytes
session_log sent got run options outcome bytes recorded default session =
    let ended = subst (λ (o : Options). IsSession sent got run o outcome bytes) default session in
    let all : Taken run default_options.level outcome.drops ≡ run.writers = ap (Taken run default_options.level) (ended.waits refl) ∙ taken_writers run 0 run.writers recorded.calls in
    subst (λ (taken : List (List Call)). IsWholeLog run default_options.batch taken bytes) all ended.log

-- its log gives a line for each call, and the text of all of them
pub whole_read : (run : Recording) (batch : ℕ) (log left text : List ℕ) (report : Report) → IsWholeLog run batch run.writers log → left ≡ log → IsTextOfWhole left text report
    → (report.lines ≡ length (calls_of run)) × (text ≡ direct_text run)
whole_read run batch log left text report whole same read =
    let is = subst (λ (bytes : List ℕ). IsTextOfWhole bytes text report) same read in
    let lawful = whole.lawful in
    let front = whole_is_front lawful.header lawful.blocks log lawful.file lawful.valid in
    let blocks = one_front log is.part.header lawful.header is.part.blocks lawful.blocks (length log) (length log) is.scanned.front front in (
      is.lines ∙ (λ i. length (all_calls (blocks.0 i) (blocks.1 i))) ∙ ap length (taken_are log run.writers run.dictionary run.version run.clocks batch lawful),
      one_text log text (direct_text run) is.decompressed (log_is_text log run.writers run.dictionary run.version run.clocks batch lawful),
    )

-- and is not damaged
pub never_damaged : (run : Recording) (batch : ℕ) (log left text : List ℕ) (offset : ℕ) (cause : Cause) → IsWholeLog run batch run.writers log → length log ≤ 134217728 → left ≡ log → IsTextOfDamaged left text offset cause → ⊥
never_damaged run batch log left text offset cause whole short same damaged =
    let is = subst (λ (bytes : List ℕ). IsTextOfDamaged bytes text offset cause) same damaged in
    let lawful = whole.lawful in
    whole_or_break lawful.header lawful.blocks log offset cause lawful.file lawful.valid (is.scanned.breaks short)

-- where the answer is damaged, that is said of what was left
pub damaged_told : (left behind : Told) (before after : ℕ) (was is : Told) (fault : DecodeFault) (offset : ℕ) (cause : Cause) → fault ≡ Damaged offset cause → Decompresses left behind before after was is (Err fault)
    → (text : List ℕ) × IfSome left (λ bytes. IsTextOfDamaged bytes text offset cause)
damaged_told left behind before after was is fault offset cause named says =
    let told : Decompresses left behind before after was is (Err (Damaged offset cause)) = subst (λ (f : DecodeFault). Decompresses left behind before after was is (Err f)) named says in
    let (text, put, (counted, so)) = told in
    (text, so)

-- ---- ends

-- memory was wanting before the line was printed
pub selftest_lacked : (seed calls writers : ℕ) (old : Scene) (ending : Ending) → ending ≡ NoMemory
    → CommandEffect (selftest_task seed calls writers) old old ending
selftest_lacked seed calls writers old ending lacks =
    subst (λ (e : Ending). CommandEffect (selftest_task seed calls writers) old old e) (sym lacks)
    (nothing_came (selftest_task seed calls writers) old old.desk NoMemory (selftest_sound seed calls writers) (refl, refl))

-- the line was printed without want of memory
pub selftest_told : (seed calls writers : ℕ) (summary : Summary) (desk : Desk) (was is : Told) (before after : ℕ)
    (ending : Ending) → summary ≡ summary_of (Generated seed calls writers)
    → Prints (summary_line summary) was is before after ending → ending ≢ NoMemory
    → CommandEffect (selftest_task seed calls writers) (scene desk was before) (scene desk is after) ending
selftest_told seed calls writers summary desk was is before after ending same prints memory =
    printed_done (selftest_task seed calls writers) (scene desk was before) desk (text_alone (summary_line summary)) ending
    is after
    (record { read = desk; reading = (refl, ap (λ (s : Summary). text_alone (summary_line s)) same); made = refl })
    prints memory
