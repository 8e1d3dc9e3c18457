-- Runs to which one call after the other is added.
use Rattle.std.proofs.Common.{◌≡◌, ◌≢◌, ℕ, zero, suc, ◌+◌, ◌<◌, ◌≤◌, Bool, true, false, cond, eqb, List, [], ◌∷◌, ◌++◌, map, length, replicate, refl, ap, sym, ◌∙◌, subst, append_assoc, arith, eq-eqb}
use Rattle.std.specs.Prelude.{Some, slice_get, sum_by}
use Rattle.std.specs.List.{AllByRecursion, filter, range_with_len}
use Rattle.std.proofs.lemmas.Bool.{ne_eqb}
use Rattle.std.proofs.lemmas.List.{append-nil, length-append}
use Rattle.std.proofs.lemmas.List.Elements.{All-get_or, All-push, All-from_recursion, recursion_from_All}
use Rattle.std.proofs.lemmas.List.Sums.{sum_by-cons}
use Rattle.std.proofs.lemmas.Option.{slice_get_within, get_or_from_slice_get}
use Rattle.log_dictionary.specs.declared.message.Message.{Message}
use Rattle.log_dictionary.specs.Clocks.{first_tick}
use Rattle.arg_records.specs.declared.call.Call.{Call}
use Rattle.arg_records.specs.Calls.{IsCall, NeverFalls}
use Rattle.arg_records.proofs.lemmas.CallLists.{NeverFalls-push}
use Rattle.trace_text.specs.declared.trace.TheConstants.{MAX_CALLS}
use Rattle.trace_text.specs.Recordings.{Recording, IsRecording}
use Rattle.trace_text.specs.Lines.{WriterCall}
use Rattle.trace_text.specs.Traces.{calls_by}
use Rattle.trace_text.specs.CallReading.{last_stamp, with_call_of, with_call}

-- the lists of calls, with these calls added
abbrev pub writers_with : List (List Call) → List WriterCall → List (List Call)
writers_with writers [] = writers
writers_with writers (made ∷ calls) = writers_with (with_call_of writers made.writer made.call) calls

-- the run with these calls added
abbrev pub with_calls : Recording → List WriterCall → Recording
with_calls run calls = record run { writers = writers_with run.writers calls }

-- the call can be the next one of the run
pub record CanFollow (run : Recording) (made : WriterCall) : Type 0 where
  pub few : sum_by length run.writers < MAX_CALLS
  pub calls : List Call
  pub known : slice_get run.writers made.writer ≡ Some calls
  pub risen : last_stamp (first_tick run.clocks) calls ≤ made.call.stamp
  pub is_call : IsCall run.dictionary made.call

-- ---- one more call

pub length-with_call_of : (writers : List (List Call)) (writer : ℕ) (call : Call) → length (with_call_of writers writer call) ≡ length writers
length-with_call_of [] writer call = refl
length-with_call_of (calls ∷ writers) zero call = refl
length-with_call_of (calls ∷ writers) (suc writer) call = ap suc (length-with_call_of writers writer call)

-- with a call of one of the writers there is one more
pub sum_by-with_call_of : (writers : List (List Call)) (writer : ℕ) (call : Call) (calls : List Call) → slice_get writers writer ≡ Some calls → sum_by length (with_call_of writers writer call) ≡ sum_by length writers + 1
sum_by-with_call_of [] writer call calls known = absurd cc
sum_by-with_call_of (first ∷ writers) zero call calls known =
    omega (arith, sum_by-cons length (first ++ call ∷ []) writers, sum_by-cons length first writers, length-append first (call ∷ []))
sum_by-with_call_of (first ∷ writers) (suc writer) call calls known =
    omega (arith, sum_by-cons length first (with_call_of writers writer call), sum_by-cons length first writers, sum_by-with_call_of writers writer call calls known)

module _ (P : List Call → Type 0) where
  -- what holds of each list with the call holds of each without it, and of the writer's list with it
  all_before : (writers : List (List Call)) (writer : ℕ) (call : Call) (calls : List Call) → slice_get writers writer ≡ Some calls → ((calls : List Call) → P (calls ++ call ∷ []) → P calls) → AllByRecursion P (with_call_of writers writer call) → AllByRecursion P writers × P (calls ++ call ∷ [])
  all_before [] writer call calls known shorter all = absurd cc
  all_before (first ∷ writers) zero call calls known shorter all =
      let same : first ≡ calls = cc in
      ((shorter first all.0, all.1), subst (λ list. P (list ++ call ∷ [])) same all.0)
  all_before (first ∷ writers) (suc writer) call calls known shorter all =
      let others = all_before writers writer call calls known shorter all.1 in
      ((all.0, others.0), others.1)

  -- and the other way round
  pub all_after : (writers : List (List Call)) (writer : ℕ) (call : Call) (calls : List Call) → slice_get writers writer ≡ Some calls → P (calls ++ call ∷ []) → AllByRecursion P writers → AllByRecursion P (with_call_of writers writer call)
  all_after [] writer call calls known longer all = absurd cc
  all_after (first ∷ writers) zero call calls known longer all =
      let same : calls ≡ first = cc in
      (subst (λ list. P (list ++ call ∷ [])) same longer, all.1)
  all_after (first ∷ writers) (suc writer) call calls known longer all = (all.0, all_after writers writer call calls known longer all.1)

-- what holds of all items holds of the one at a place
pub all_at : {A : Type 0} (P : A → Type 0) (items : List A) (place : ℕ) (item : A) → slice_get items place ≡ Some item → AllByRecursion P items → P item
all_at P items place item there all =
    subst P (get_or_from_slice_get items place item item there) (All-get_or P items place item (slice_get_within items place item there) (All-from_recursion P items all))

-- ---- calls of messages, and stamps

-- what holds of each item and of one more
pub all-push : {A : Type 0} (P : A → Type 0) (items : List A) (item : A) → AllByRecursion P items → P item → AllByRecursion P (items ++ item ∷ [])
all-push P items item all is = recursion_from_All P (items ++ item ∷ []) (All-push P items item (All-from_recursion P items all) is)

calls-before : (messages : List Message) (calls : List Call) (call : Call) → AllByRecursion (IsCall messages) (calls ++ call ∷ []) → AllByRecursion (IsCall messages) calls × IsCall messages call
calls-before messages [] call all = (tt, all.0)
calls-before messages (first ∷ calls) call all = let others = calls-before messages calls call all.1 in ((all.0, others.0), others.1)

stamps-before : (least : ℕ) (calls : List Call) (call : Call) → NeverFalls least (calls ++ call ∷ []) → NeverFalls least calls × (last_stamp least calls ≤ call.stamp)
stamps-before least [] call never = (tt, never.0)
stamps-before least (first ∷ calls) call never = let others = stamps-before first.stamp calls call never.1 in ((never.0, others.0), others.1)

-- no last stamp is below the least
pub last_stamp-least : (least : ℕ) (calls : List Call) → NeverFalls least calls → least ≤ last_stamp least calls
last_stamp-least least [] never = omega arith
last_stamp-least least (call ∷ calls) never = omega (arith, last_stamp-least call.stamp calls never.1, never.0)

-- ---- a run that is recorded stays so

pub recorded_after : (run : Recording) (made : WriterCall) → IsRecording run → CanFollow run made → IsRecording (with_call run made)
recorded_after run made recorded next =
    let writer = made.writer in
    let call = made.call in
    let long = length-with_call_of run.writers writer call in
    record {
      known = recorded.known;
      clocks = recorded.clocks;
      some_writer = omega (arith, long, recorded.some_writer);
      few_writers = omega (arith, long, recorded.few_writers);
      few_calls = omega (arith, sum_by-with_call_of run.writers writer call next.calls next.known, next.few);
      calls = all_after (AllByRecursion (IsCall run.dictionary)) run.writers writer call next.calls next.known (all-push (IsCall run.dictionary) next.calls call (all_at (AllByRecursion (IsCall run.dictionary)) run.writers writer next.calls next.known recorded.calls) next.is_call) recorded.calls;
      stamps = all_after (NeverFalls (first_tick run.clocks)) run.writers writer call next.calls next.known (NeverFalls-push (first_tick run.clocks) next.calls call (all_at (NeverFalls (first_tick run.clocks)) run.writers writer next.calls next.known recorded.stamps) next.risen) recorded.stamps;
    }

-- and its last call could follow
pub recorded_before : (run : Recording) (made : WriterCall) (calls : List Call) → slice_get run.writers made.writer ≡ Some calls → IsRecording (with_call run made) → IsRecording run × CanFollow run made
recorded_before run made calls known recorded =
    let writer = made.writer in
    let call = made.call in
    let long = length-with_call_of run.writers writer call in
    let count = sum_by-with_call_of run.writers writer call calls known in
    let are = all_before (AllByRecursion (IsCall run.dictionary)) run.writers writer call calls known (λ list all. (calls-before run.dictionary list call all).0) recorded.calls in
    let rise = all_before (NeverFalls (first_tick run.clocks)) run.writers writer call calls known (λ list never. (stamps-before (first_tick run.clocks) list call never).0) recorded.stamps in (
      record { known = recorded.known; clocks = recorded.clocks; some_writer = omega (arith, long, recorded.some_writer); few_writers = omega (arith, long, recorded.few_writers); few_calls = omega (arith, count, recorded.few_calls); calls = are.0; stamps = rise.0 },
      record { few = omega (arith, count, recorded.few_calls); calls = calls; known = known; risen = (stamps-before (first_tick run.clocks) calls call rise.1).1; is_call = (calls-before run.dictionary calls call are.1).1 },
    )

-- ---- the calls of each writer

-- functions that agree on a range give one list
same_on_range : {X : Type 0} (f g : ℕ → X) (start count : ℕ) → ((k : ℕ) → start ≤ k → f k ≡ g k) → map f (range_with_len start count) ≡ map g (range_with_len start count)
same_on_range f g start zero same = refl
same_on_range f g start (suc count) same =
    ap (λ x. x ∷ map f (range_with_len (start + 1) count)) (same start (omega arith)) ∙ ap (λ xs. g start ∷ xs) (same_on_range f g (start + 1) count (λ k above. same k (omega (arith, above))))

-- the lists, each with its writer's calls behind
abbrev longer : (ℕ → List Call) → List WriterCall → ℕ → List Call
longer f calls writer = f writer ++ calls_by calls writer

calls_by-same : (made : WriterCall) (writer : ℕ) → made.writer ≡ writer → calls_by (made ∷ []) writer ≡ made.call ∷ []
calls_by-same made writer same = rw (eq-eqb made.writer writer same) refl

calls_by-other : (made : WriterCall) (writer : ℕ) → made.writer ≢ writer → calls_by (made ∷ []) writer ≡ []
calls_by-other made writer other = rw (ne_eqb made.writer writer other) refl

one_longer : (f : ℕ → List Call) (start count writer : ℕ) (made : WriterCall) → made.writer ≡ start + writer → with_call_of (map f (range_with_len start count)) writer made.call ≡ map (longer f (made ∷ [])) (range_with_len start count)
one_longer f start zero writer made is = refl
one_longer f start (suc count) zero made is =
    ap (λ calls. (f start ++ calls) ∷ map f (range_with_len (start + 1) count)) (sym (calls_by-same made start (omega (arith, is))))
    ∙ ap (λ lists. longer f (made ∷ []) start ∷ lists) (same_on_range f (longer f (made ∷ [])) (start + 1) count (λ k above. sym (append-nil (f k)) ∙ ap (λ calls. f k ++ calls) (sym (calls_by-other made k (omega (arith, above, is))))))
one_longer f start (suc count) (suc writer) made is =
    ap (λ calls. calls ∷ with_call_of (map f (range_with_len (start + 1) count)) writer made.call) (sym (append-nil (f start)) ∙ ap (λ calls. f start ++ calls) (sym (calls_by-other made start (omega (arith, is)))))
    ∙ ap (λ lists. longer f (made ∷ []) start ∷ lists) (one_longer f (start + 1) count writer made (omega (arith, is)))

calls_by-cons : (made : WriterCall) (calls : List WriterCall) (writer : ℕ) → calls_by (made ∷ []) writer ++ calls_by calls writer ≡ calls_by (made ∷ calls) writer
calls_by-cons made calls writer = at_test (eqb made.writer writer)
  where
    at_test : (b : Bool) → map (λ made. made.call) (cond b (made ∷ []) []) ++ calls_by calls writer ≡ map (λ made. made.call) (cond b (made ∷ filter (λ made. eqb made.writer writer) calls) (filter (λ made. eqb made.writer writer) calls))
    at_test true = refl
    at_test false = refl

all_longer : (f : ℕ → List Call) (count : ℕ) (calls : List WriterCall) → writers_with (map f (range_with_len 0 count)) calls ≡ map (longer f calls) (range_with_len 0 count)
all_longer f count [] = same_on_range f (longer f []) 0 count (λ k above. sym (append-nil (f k)))
all_longer f count (made ∷ calls) =
    ap (λ writers. writers_with writers calls) (one_longer f 0 count made.writer made (omega arith))
    ∙ all_longer (longer f (made ∷ [])) count calls
    ∙ same_on_range (longer (longer f (made ∷ [])) calls) (longer f (made ∷ calls)) 0 count (λ k above. append_assoc (f k) (calls_by (made ∷ []) k) (calls_by calls k) ∙ ap (λ list. f k ++ list) (calls_by-cons made calls k))

abbrev no_call : ℕ → List Call
no_call writer = []

no_calls : (start count : ℕ) → replicate count [] ≡ map no_call (range_with_len start count)
no_calls start zero = refl
no_calls start (suc count) = ap (λ lists. [] ∷ lists) (no_calls (start + 1) count)

-- calls added one after the other to writers without calls are each writer's own
pub writers_are : (count : ℕ) (calls : List WriterCall) → writers_with (replicate count []) calls ≡ map (calls_by calls) (range_with_len 0 count)
writers_are count calls = ap (λ writers. writers_with writers calls) (no_calls 0 count) ∙ all_longer no_call count calls

pub length-writers_with : (writers : List (List Call)) (calls : List WriterCall) → length (writers_with writers calls) ≡ length writers
length-writers_with writers [] = refl
length-writers_with writers (made ∷ calls) = length-writers_with (with_call_of writers made.writer made.call) calls ∙ length-with_call_of writers made.writer made.call
