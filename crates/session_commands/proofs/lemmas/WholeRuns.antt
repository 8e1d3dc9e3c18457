-- A session that takes all calls.
use Rattle.std.proofs.Common.{◌≡◌, ℕ, ◌+◌, Bool, true, false, List, [], ◌∷◌, map as map_list, Option, Some, None, refl, ap, ◌∙◌}
use Rattle.std.specs.Prelude.{not, ◌&&◌, leb, if◌then◌else◌}
use Rattle.std.specs.List.{AllByRecursion, filter_map, enumerate_from, cons_option}
use Rattle.std.specs.Option.{option_map_or}
use Rattle.log_dictionary.specs.Severities.{severity_number}
use Rattle.log_dictionary.specs.declared.severity.Severity.{Severity}
use Rattle.log_dictionary.specs.declared.severity.Severity.TheVariants as severities
use Rattle.log_dictionary.specs.declared.message.Message.{Message}
use Rattle.arg_records.specs.declared.call.Call.{Call}
use Rattle.arg_records.specs.Calls.{IsCall, calls_by_writer}
use Rattle.direct_printf.specs.Lines.{Direct}
use Rattle.trace_text.specs.Recordings.{Recording, IsRecording}
use Rattle.trace_session.specs.declared.drops.Dropped.{Dropped}
use Rattle.trace_session.specs.Levels.{is_within, keeps}
use Rattle.trace_session.specs.Drops.{is_listed, taken_call, taken_of}
use Rattle.trace_commands.specs.Texts.{direct_text}
use Rattle.session_commands.specs.Headline.{taken_text}

within_all : (severity : Severity) → leb (severity_number severity) (severity_number severities.Debug) ≡ true
within_all severities.Error = refl
within_all severities.Warning = refl
within_all severities.Notice = refl
within_all severities.Debug = refl

-- the last level keeps each call
kept_all : (dictionary : List Message) (call : Call) → IsCall dictionary call → keeps dictionary severities.Debug call ≡ true
kept_all dictionary call is = ap (λ (o : Option Message). option_map_or (is_within severities.Debug) o false) is.known ∙ within_all is.message.severity

taken_all : (dictionary : List Message) (writer from : ℕ) (calls : List Call) → AllByRecursion (IsCall dictionary) calls
    → filter_map (taken_call dictionary severities.Debug (is_listed [] writer)) (enumerate_from from calls) ≡ calls
taken_all dictionary writer from [] named = refl
taken_all dictionary writer from (call ∷ calls) named =
    let rest = filter_map (taken_call dictionary severities.Debug (is_listed [] writer)) (enumerate_from (from + 1) calls) in
    ap (λ (b : Bool). cons_option (if b && not (is_listed [] writer from) then Some call else None) rest) (kept_all dictionary call named.0)
    ∙ ap (λ (cs : List Call). call ∷ cs) (taken_all dictionary writer (from + 1) calls named.1)

pub taken_writers : (run : Recording) (from : ℕ) (writers : List (List Call)) → AllByRecursion (AllByRecursion (IsCall run.dictionary)) writers
    → map_list (taken_of run severities.Debug []) (enumerate_from from writers) ≡ writers
taken_writers run from [] named = refl
taken_writers run from (calls ∷ writers) named = λ i. taken_all run.dictionary from 0 calls named.0 i ∷ taken_writers run (from + 1) writers named.1 i

-- the lines of the calls that were taken are those of all calls
pub whole_text : (run : Recording) (level : Severity) (drops : List Dropped) → IsRecording run → level ≡ severities.Debug → drops ≡ [] → taken_text run level drops ≡ direct_text run
whole_text run level drops recorded all none =
    (λ i. taken_text run (all i) (none i)) ∙ ap (λ (writers : List (List Call)). Direct run.clocks (calls_by_writer run.dictionary writers)) (taken_writers run 0 run.writers recorded.calls)
