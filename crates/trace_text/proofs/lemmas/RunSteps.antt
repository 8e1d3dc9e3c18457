-- A run before any call, and a call that is added to it.
use Rattle.std.proofs.Common.{◌≡◌, ℕ, zero, suc, ◌<◌, ◌≤◌, List, [], ◌∷◌, ◌++◌, true, lit≤, length, get_or, set, replicate, Result, Ok, Err, OnOk, OnErr, ap, sym, ◌∙◌, subst, refl, arith}
use Rattle.std.specs.List.{AllByRecursion}
use Rattle.std.specs.Prelude.{sum_by}
use Rattle.std.proofs.lemmas.List.{length-replicate}
use Rattle.std.proofs.lemmas.List.Elements.{All-nil, All-cons}
use Rattle.std.proofs.lemmas.List.Sums.{sum_by-cons}
use Rattle.log_dictionary.specs.declared.clock.Clock.{Clock}
use Rattle.log_dictionary.specs.declared.message.Message.{Message}
use Rattle.log_dictionary.specs.Clocks.{first_tick, FitsClock}
use Rattle.arg_records.specs.declared.call.Call.{Call}
use Rattle.arg_records.specs.Calls.{IsCall, NeverFalls}
use Rattle.trace_text.specs.Recordings.{Recording, start_of, IsRecording}
use Rattle.trace_text.specs.Lines.{WriterCall}
use Rattle.trace_text.specs.Canonical.{HasText}
use Rattle.trace_text.specs.CallReading.{with_call_of, with_call}
use Rattle.printf_grammar.proofs.lemmas.Worked.{all_copies}
use Rattle.session_options.specs.Versions.{is_known, most_writers, MayHaveClocks}

pub sum_of_none : (n : ℕ) → let none : List Call = [] in sum_by length (replicate n none) ≡ 0
sum_of_none zero = refl
sum_of_none (suc n) = let none : List Call = [] in omega (arith, sum_by-cons length none (replicate n none), sum_of_none n)

-- a clock alone may be that of a run
pub one_clock : (version : ℕ) (clock : Clock) → 1 ≤ clock.rate → FitsClock clock → MayHaveClocks version (clock ∷ [])
one_clock version clock rate fits = record {
  are = record {
    some = lit≤ tt;
    few = lit≤ tt;
    rising = λ i j d earlier within. absurd (omega (arith, earlier, within));
    rates = All-cons (λ (c : Clock). 1 ≤ c.rate) clock [] rate (All-nil (λ (c : Clock). 1 ≤ c.rate));
  };
  fit = All-cons FitsClock clock [] fits (All-nil FitsClock);
  alone = λ none. refl;
}

pub start_recorded : (version : ℕ) (dictionary : List Message) (clocks : List Clock) (count : ℕ) → is_known version ≡ true → MayHaveClocks version clocks → 1 ≤ count → count ≤ most_writers version → IsRecording (start_of version dictionary clocks count)
start_recorded version dictionary clocks count known may some few =
    let none : List Call = [] in
    let long : length (replicate count none) ≡ count = length-replicate count none in
    record {
      known = known;
      clocks = may;
      some_writer = omega (arith, long, some);
      few_writers = subst (λ (n : ℕ). n ≤ most_writers version) (sym long) few;
      few_calls = omega (arith, sum_of_none count);
      calls = all_copies (AllByRecursion (IsCall dictionary)) none count tt;
      stamps = all_copies (NeverFalls (first_tick clocks)) none count tt;
    }

-- ---- a call at the end of a writer's

set-with_call_of : (writers : List (List Call)) (writer : ℕ) (call : Call) (calls : List Call) → writer < length writers → calls ≡ get_or writers writer calls → set writers writer (calls ++ call ∷ []) ≡ with_call_of writers writer call
set-with_call_of [] writer call calls within there = absurd (omega (arith, within))
set-with_call_of (first ∷ writers) zero call calls within there = ap (λ (made : List Call). (made ++ call ∷ []) ∷ writers) there
set-with_call_of (first ∷ writers) (suc writer) call calls within there = ap (λ (others : List (List Call)). first ∷ others) (set-with_call_of writers writer call calls (omega (arith, within)) there)

pub written : {E : Type 0} (writers : List (List Call)) (writer : ℕ) (call : Call) (calls new : List Call) (r : Result (Unit {0}) E) → writer < length writers → calls ≡ get_or writers writer calls → OnOk r (new ≡ calls ++ call ∷ [])
    → OnOk r (set writers writer new ≡ with_call_of writers writer call)
written writers writer call calls new (Ok u) within there ok = ap (set writers writer) ok ∙ set-with_call_of writers writer call calls within there
written writers writer call calls new (Err e) within there ok = tt

-- whether the call was added or not, the run has a text
pub pushed : {E : Type 0} (run : Recording) (made : WriterCall) (writers : List (List Call)) (r : Result (Unit {0}) E) → OnOk r (writers ≡ with_call_of run.writers made.writer made.call) → OnErr r (writers ≡ run.writers) → HasText run → HasText (with_call run made)
    → HasText (record run { writers = writers })
pushed run made writers (Ok u) ok err old new = subst (λ (w : List (List Call)). HasText (record run { writers = w })) (sym ok) new
pushed run made writers (Err e) ok err old new = subst (λ (w : List (List Call)). HasText (record run { writers = w })) (sym err) old
