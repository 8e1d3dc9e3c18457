use Rattle.std.proofs.Common.{ℕ, List, [], ◌∷◌, sym, subst}
use Rattle.std.proofs.lemmas.Result.{err_from_is_err_and}
use Rattle.log_dictionary.specs.declared.clock.Clock.{Clock}
use Rattle.trace_text.specs.Recordings.{Recording}
use Rattle.trace_text.specs.Reading.{opening, messages, clocks, calls}
use Rattle.trace_text.specs.Progress.{progress, Leads, ReadsToEnd}
use Rattle.trace_text.proofs.Steps.{leads_on, fault_on, finished_on}
use Rattle.trace_text.proofs.ReadTexts.{answered_of, not_unread}
use Rattle.trace_text.proofs.reading.run_of.Goals as goal
use Rattle.trace_text.proofs.reading.run_of.Goals.{After-from_residual-in_err-dictionary, In-Ok, After-drop-dictionary-inside-in_err-clocks-4}

-- the first clock was read
led_to_clocks : (c : In-Ok) → Leads (progress opening c.of.result) (progress (clocks c.in_ok-version.version c.in_ok-dictionary.dictionary c.in-Ok.clocks) c.in_ok-dictionary.lines)
led_to_clocks c =
    let version : ℕ = c.in_ok-version.version in
    let start = progress opening c.of.result in
    let first = progress (messages version []) c.in_ok-version.lines in
    let second = progress (clocks version c.in_ok-dictionary.dictionary (c.in_ok-dictionary.first ∷ [])) c.in_ok-dictionary.lines in
    subst (λ (times : List Clock). Leads start (progress (clocks version c.in_ok-dictionary.dictionary times) c.in_ok-dictionary.lines)) (sym c.in-Ok.ensures)
    (leads_on start first second c.in_ok-version.ensures.front (c.in_ok-dictionary.ensures.front version))

-- a message or the first clock was refused
front_refused : (c : After-from_residual-in_err-dictionary) → ReadsToEnd (progress opening c.of.result) c.from_residual-in_err-dictionary.result
front_refused c =
    let p = err_from_is_err_and c.from_residual-in_err-dictionary.result c.from_residual-in_err-dictionary.ensures.1 in
    let version : ℕ = c.in_ok-version.version in
    fault_on (progress opening c.of.result) (progress (messages version []) c.in_ok-version.lines) _ _ p.0 c.in_ok-version.ensures.front (c.in_err-dictionary.ensures.front version) p.1 p.2

pub returns-in_err-dictionary-clause-answer : goal.returns-in_err-dictionary-clause-answer
returns-in_err-dictionary-clause-answer c =
    answered_of c.args.text.now c.of.result _ c.requires c.of.ensures.number c.of.ensures.bytes (front_refused c)

pub returns-in_err-dictionary-clause-read : goal.returns-in_err-dictionary-clause-read
returns-in_err-dictionary-clause-read c = not_unread (progress opening c.of.result) _ (front_refused c)

-- a clock behind the first one or the number of writers was
clocks_refused : (c : After-drop-dictionary-inside-in_err-clocks-4) → ReadsToEnd (progress opening c.of.result) c.from_residual-in_err-clocks.result
clocks_refused c =
    let p = err_from_is_err_and c.from_residual-in_err-clocks.result c.from_residual-in_err-clocks.ensures.1 in
    let second = progress (clocks c.in_ok-version.version c.in_ok-dictionary.dictionary c.in-Ok.clocks) c.in_ok-dictionary.lines in
    fault_on (progress opening c.of.result) second _ _ p.0 (led_to_clocks (goal.at.returns-in_err-clocks-clause-answer c).In-Ok) (c.in_err-clocks.ensures.front c.in_ok-dictionary.dictionary) p.1 p.2

pub returns-in_err-clocks-clause-answer : goal.returns-in_err-clocks-clause-answer
returns-in_err-clocks-clause-answer c =
    answered_of c.args.text.now c.of.result _ c.requires c.of.ensures.number c.of.ensures.bytes (clocks_refused c)

pub returns-in_err-clocks-clause-read : goal.returns-in_err-clocks-clause-read
returns-in_err-clocks-clause-read c = not_unread (progress opening c.of.result) _ (clocks_refused c)

pub returns-clause-answer : goal.returns-clause-answer
returns-clause-answer c =
    let start = progress opening c.of.result in
    let second = progress (clocks c.in_ok-version.version c.in_ok-dictionary.dictionary c.in-Ok.clocks) c.in_ok-dictionary.lines in
    let third = progress (calls c.in-Ok-begin_run.run') c.in_ok-clocks.lines in
    let led : Leads start third = leads_on start second third (led_to_clocks (goal.at.returns-clause-answer c).In-Ok)
    (subst (λ (run : Recording). Leads second (progress (calls run) c.in_ok-clocks.lines)) (sym c.in-Ok-begin_run.ensures) (c.in_ok-clocks.ensures.front c.in_ok-dictionary.dictionary)) in
    answered_of c.args.text.now c.of.result c.read_calls.result c.requires c.of.ensures.number c.of.ensures.bytes (finished_on start third c.read_calls.result led c.read_calls.ensures)
