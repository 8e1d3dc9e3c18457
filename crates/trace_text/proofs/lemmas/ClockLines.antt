-- The line of a call by the clocks of its run.
use Rattle.std.proofs.Common.{◌≡◌, ℕ, ◌<◌, ◌≤◌, List, [], ◌∷◌, ◌++◌, Option, Some, refl, ap, sym, ◌∙◌}
use Rattle.std.specs.Prelude.{option_map, unwrap_or, codes}
use Rattle.std.specs.Fmt.{decimal}
use Rattle.std.proofs.lemmas.Bool.{le-leb}
use Rattle.log_dictionary.specs.declared.clock.Clock.{Clock}
use Rattle.log_dictionary.specs.Calls.{LogCall}
use Rattle.log_dictionary.specs.Severities.{severity_name}
use Rattle.log_dictionary.specs.Times.{clock_time, clock_at, Time}
use Rattle.log_dictionary.proofs.lemmas.TimeLaws.{Time-before}
use Rattle.direct_printf.specs.Fields.{Text}
use Rattle.direct_printf.specs.Lines.{seconds_text, Line}

-- what a line is, but for its time
abbrev line_at : ℕ → LogCall → List ℕ
line_at time call =
    seconds_text time
    ++ 32 ∷ call.message.file
    ++ 58 ∷ decimal call.message.line
    ++ 32 ∷ severity_name call.message.severity
    ++ 91 ∷ decimal call.writer
    ++ codes "]: "
    ++ Text call.message.format call.args
    ++ 10 ∷ []

line_has_time : (clocks : List Clock) (call : LogCall) → Line clocks call ≡ line_at (Time clocks call.stamp) call
unfolding Line
line_has_time clocks call = refl

pub line_before : (clocks : List Clock) (clock : Clock) (call : LogCall) → call.stamp < clock.tick → Line (clocks ++ clock ∷ []) call ≡ Line clocks call
line_before clocks clock call below =
    line_has_time (clocks ++ clock ∷ []) call ∙ ap (λ (time : ℕ). line_at time call) (Time-before clocks clock call.stamp below) ∙ sym (line_has_time clocks call)

-- the line by the clock that counts is that by all
pub line_by_clock : (clocks : List Clock) (clock : Clock) (call : LogCall) → clock_at clocks call.stamp ≡ Some clock → clock.tick ≤ call.stamp → Line (clock ∷ []) call ≡ Line clocks call
line_by_clock clocks clock call counts since =
    let alone : clock_at (clock ∷ []) call.stamp ≡ Some clock = rw (le-leb clock.tick call.stamp since) refl in
    let time : Time (clock ∷ []) call.stamp ≡ Time clocks call.stamp = ap (λ (found : Option Clock). unwrap_or (option_map (clock_time call.stamp) found) 0) (alone ∙ sym counts) in
    line_has_time (clock ∷ []) call ∙ ap (λ (t : ℕ). line_at t call) time ∙ sym (line_has_time clocks call)
