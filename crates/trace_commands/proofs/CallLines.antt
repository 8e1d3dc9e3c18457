-- The lines of calls, of one writer and of a run.
use Rattle.std.proofs.Common.{◌≡◌, ℕ, zero, suc, ◌+◌, ◌<◌, ◌≤◌, List, [], ◌∷◌, ◌++◌, length, map, take, drop, get_or, take-append-drop, Option, Some, None, refl, sym, ap, subst, ◌∙◌, arith, option_map}
use Rattle.std.specs.Prelude.{slice_get, option_and_then}
use Rattle.std.specs.List.{flat_map, AllByRecursion}
use Rattle.std.proofs.lemmas.Grind.{flat_map-append}
use Rattle.std.proofs.lemmas.List.{append-nil, length-map, take_all}
use Rattle.std.proofs.lemmas.List.Concat.{flat_map-cons}
use Rattle.std.proofs.lemmas.Option.{slice_get_within, same_Some}
use Rattle.log_dictionary.specs.Clocks.{first_tick}
use Rattle.log_dictionary.specs.declared.clock.Clock.{Clock}
use Rattle.log_dictionary.specs.declared.message.Message.{Message}
use Rattle.log_dictionary.specs.Calls.{LogCall}
use Rattle.log_dictionary.specs.Times.{clock_at}
use Rattle.direct_printf.specs.Lines.{Line, in_order, Direct}
use Rattle.arg_records.specs.declared.call.Call.{Call}
use Rattle.arg_records.specs.Calls.{IsCall, NeverFalls, log_call}
use Rattle.trace_text.specs.declared.order.CallPlace.{CallPlace}
use Rattle.trace_text.specs.Recordings.{Recording, IsRecording, calls_of}
use Rattle.trace_text.specs.Order.{call_place, places_in_order}
use Rattle.trace_text.proofs.lemmas.CallPlaces.{IsAtPlace, all_at_places}
use Rattle.trace_text.proofs.lemmas.CallRuns.{all_at}
use Rattle.trace_text.proofs.lemmas.ClockLines.{line_by_clock}
use Rattle.trace_commands.specs.Texts.{direct_text, HasCall}

-- ---- lines

one_line : (clocks : List Clock) (calls : List LogCall) (call : LogCall) → flat_map (Line clocks) (calls ++ call ∷ []) ≡ flat_map (Line clocks) calls ++ Line clocks call
one_line clocks calls call =
    flat_map-append (Line clocks) calls (call ∷ [])
    ∙ ap (λ (r : List ℕ). flat_map (Line clocks) calls ++ r) (flat_map-cons (Line clocks) call [] ∙ append-nil (Line clocks call))

-- ---- the calls of a run

call_at_ordinal : (run : Recording) (made : LogCall) (calls : List Call) (found : Option Call) → slice_get run.writers made.writer ≡ Some calls → slice_get calls made.ordinal ≡ found
    → option_and_then (λ call. log_call run.dictionary made.writer (made.ordinal, call)) found ≡ Some made → HasCall run made
call_at_ordinal run made calls None by at is = absurd cc
call_at_ordinal run made calls (Some call) by at is = record { calls = calls; call = call; of_writer = by; at_ordinal = at; is = is }

call_of_writer : (run : Recording) (made : LogCall) (found : Option (List Call)) → slice_get run.writers made.writer ≡ found
    → option_and_then (λ calls. option_and_then (λ call. log_call run.dictionary made.writer (made.ordinal, call)) (slice_get calls made.ordinal)) found ≡ Some made → HasCall run made
call_of_writer run made None by is = absurd cc
call_of_writer run made (Some calls) by is = call_at_ordinal run made calls (slice_get calls made.ordinal) by refl is

all_there : (run : Recording) (calls : List LogCall) → AllByRecursion (IsAtPlace run) calls → AllByRecursion (HasCall run) calls
all_there run [] found = tt
all_there run (call ∷ calls) found = (call_of_writer run call (slice_get run.writers call.writer) refl found.0, all_there run calls found.1)

-- each of a run's calls in order stands in the run
pub calls_in_run : (run : Recording) → AllByRecursion (HasCall run) (in_order (calls_of run))
calls_in_run run = all_there run (in_order (calls_of run)) (all_at_places run)

-- the call whose place stands at an index of the places
pub record CallAt (run : Recording) (calls : List LogCall) (i : ℕ) (place : CallPlace) : Type 0 where
  pub call : LogCall
  pub there : HasCall run call
  pub place_is : place ≡ call_place call
  pub more : take (i + 1) calls ≡ take i calls ++ call ∷ []

call_at_from : (run : Recording) (calls : List LogCall) (i : ℕ) (d : CallPlace) → AllByRecursion (HasCall run) calls → i < length calls → CallAt run calls i (get_or (map call_place calls) i d)
call_at_from run [] i d all within = absurd (omega (arith, within))
call_at_from run (call ∷ calls) zero d all within = record { call = call; there = all.0; place_is = refl; more = refl }
call_at_from run (call ∷ calls) (suc i) d all within =
    let next = call_at_from run calls i d all.1 (omega (arith, within)) in
    let count : suc i + 1 ≡ suc (i + 1) = omega arith in
    record { call = next.call; there = next.there; place_is = next.place_is; more = ap (λ (n : ℕ). take n (call ∷ calls)) count ∙ ap (λ (cs : List LogCall). call ∷ cs) next.more }

pub call_at_place : (run : Recording) (places : List CallPlace) (i : ℕ) (d : CallPlace) → places ≡ places_in_order run → i < length places → CallAt run (in_order (calls_of run)) i (get_or places i d)
call_at_place run places i d are within =
    let calls = in_order (calls_of run) in
    subst (λ (ps : List CallPlace). CallAt run calls i (get_or ps i d)) (sym are)
    (call_at_from run calls i d (calls_in_run run) (omega (arith, within, ap length are, length-map calls call_place)))

-- ---- the lines of the first calls

-- the lines of the first calls of a run
abbrev pub first_lines : Recording → ℕ → List ℕ
first_lines run i = flat_map (Line run.clocks) (take i (in_order (calls_of run)))

-- and those of the others
abbrev pub other_lines : Recording → ℕ → List ℕ
other_lines run i = flat_map (Line run.clocks) (drop i (in_order (calls_of run)))

-- the lines up to one call, and that call's
pub line_more : (run : Recording) (i : ℕ) (place : CallPlace) (at : CallAt run (in_order (calls_of run)) i place) → first_lines run (i + 1) ≡ first_lines run i ++ Line run.clocks at.call
line_more run i place at = ap (flat_map (Line run.clocks)) at.more ∙ one_line run.clocks (take i (in_order (calls_of run))) at.call

-- the lines of the first calls are followed by those of the others
pub lines_cut : (run : Recording) (i : ℕ) → direct_text run ≡ first_lines run i ++ other_lines run i
unfolding Direct
lines_cut run i =
    ap (flat_map (Line run.clocks)) (sym (take-append-drop i (in_order (calls_of run))))
    ∙ flat_map-append (Line run.clocks) (take i (in_order (calls_of run))) (drop i (in_order (calls_of run)))

-- the lines of the first calls, and that of the next, are followed by those of the others
pub lines_cut_behind : (run : Recording) (i : ℕ) (place : CallPlace) (at : CallAt run (in_order (calls_of run)) i place) → direct_text run ≡ first_lines run i ++ Line run.clocks at.call ++ other_lines run (i + 1)
lines_cut_behind run i place at =
    lines_cut run (i + 1)
    ∙ ap (λ (text : List ℕ). text ++ other_lines run (i + 1)) (line_more run i place at)

-- behind the last place there are no others
pub all_lines : (run : Recording) (places : List CallPlace) (i : ℕ) → places ≡ places_in_order run → length places ≤ i → first_lines run i ≡ direct_text run
unfolding Direct
all_lines run places i are past =
    ap (flat_map (Line run.clocks)) (take_all i (in_order (calls_of run)) (omega (arith, past, ap length are, length-map (in_order (calls_of run)) call_place)))

-- ---- the call at a place

later_at : (least : ℕ) (calls : List Call) (i : ℕ) (call : Call) → NeverFalls least calls → slice_get calls i ≡ Some call → least ≤ call.stamp
later_at least [] i call h e = absurd cc
later_at least (c ∷ calls) zero call h e = omega (arith, ap (λ (x : Call). x.stamp) (same_Some c call e), h.0)
later_at least (c ∷ calls) (suc i) call h e = omega (arith, h.0, later_at c.stamp calls i call h.1 e)

-- the place is that of a call of the run
abbrev pub IsPlace : Recording → CallPlace → Type 0
IsPlace run place = (call : LogCall) × HasCall run call × (place ≡ call_place call)

writer_of : (seen run : Recording) (place : CallPlace) → seen ≡ run → (at : IsPlace run place) → slice_get seen.writers place.writer ≡ Some at.1.calls
writer_of seen run place same (call, has, is) = ap (λ (r : Recording). slice_get r.writers place.writer) same ∙ ap (λ (p : CallPlace). slice_get run.writers p.writer) is ∙ has.of_writer

pub writer_there : (seen run : Recording) (place : CallPlace) → seen ≡ run → IsPlace run place → place.writer < length seen.writers
writer_there seen run place same at = slice_get_within seen.writers place.writer at.1.calls (writer_of seen run place same at)

pub call_there_at : (seen run : Recording) (place : CallPlace) (calls : List Call) → seen ≡ run → IsPlace run place → slice_get seen.writers place.writer ≡ Some calls → place.ordinal < length calls
call_there_at seen run place calls same at by =
    let is : calls ≡ at.1.calls = same_Some calls at.1.calls (sym by ∙ writer_of seen run place same at) in
    slice_get_within calls place.ordinal at.1.call (ap (λ (cs : List Call). slice_get cs place.ordinal) is ∙ ap (λ (p : CallPlace). slice_get at.1.calls p.ordinal) at.2 ∙ at.1.at_ordinal)

-- what is found at the place of a run's call
pub record Found (run : Recording) (place : CallPlace) (call : Call) : Type 0 where
  pub named : IsCall run.dictionary call
  pub later : first_tick run.clocks ≤ call.stamp
  pub is : (made : LogCall) → HasCall run made → place ≡ call_place made → log_call run.dictionary made.writer (made.ordinal, call) ≡ Some made

found_in : (run : Recording) (place : CallPlace) (calls : List Call) (call : Call) → IsRecording run → slice_get run.writers place.writer ≡ Some calls → slice_get calls place.ordinal ≡ Some call → Found run place call
found_in run place calls call recorded by at = record {
  named = all_at (IsCall run.dictionary) calls place.ordinal call at (all_at (AllByRecursion (IsCall run.dictionary)) run.writers place.writer calls by recorded.calls);
  later = later_at (first_tick run.clocks) calls place.ordinal call (all_at (NeverFalls (first_tick run.clocks)) run.writers place.writer calls by recorded.stamps) at;
  is = λ made has is.
      let same_calls : has.calls ≡ calls = same_Some has.calls calls (sym has.of_writer ∙ ap (λ (p : CallPlace). slice_get run.writers p.writer) (sym is) ∙ by) in
      let same : has.call ≡ call = same_Some has.call call (sym has.at_ordinal ∙ ap (λ (cs : List Call). slice_get cs made.ordinal) same_calls ∙ ap (λ (p : CallPlace). slice_get calls p.ordinal) (sym is) ∙ at) in
      subst (λ (c : Call). log_call run.dictionary made.writer (made.ordinal, c) ≡ Some made) same has.is;
}

pub found_at : (seen run : Recording) (place : CallPlace) (calls : List Call) (call : Call) → seen ≡ run → IsRecording seen → slice_get seen.writers place.writer ≡ Some calls → slice_get calls place.ordinal ≡ Some call → Found run place call
found_at seen run place calls call same recorded by at = subst (λ (r : Recording). Found r place call) same (found_in seen place calls call recorded by at)

-- the line that was appended is that of the call at the place
pub called : (seen run : Recording) (place : CallPlace) (call : Call) (old new : List ℕ) → seen ≡ run
    → ((made : LogCall) → HasCall run made → place ≡ call_place made → log_call run.dictionary made.writer (made.ordinal, call) ≡ Some made)
    → ((ordinal : ℕ) (made : LogCall) → log_call seen.dictionary place.writer (ordinal, call) ≡ Some made → new ≡ old ++ Line seen.clocks made)
    → (made : LogCall) → HasCall run made → place ≡ call_place made → new ≡ old ++ Line run.clocks made
called seen run place call old new same found appended made has is =
    let of_run = subst (λ (r : Recording). (ordinal : ℕ) (line : LogCall) → log_call r.dictionary place.writer (ordinal, call) ≡ Some line → new ≡ old ++ Line r.clocks line) same appended in
    of_run made.ordinal made (ap (λ (p : CallPlace). log_call run.dictionary p.writer (made.ordinal, call)) is ∙ found made has is)

-- ---- the clock of a call

stamp_is : (f : Message → LogCall) (stamp : ℕ) (made : LogCall) (found : Option Message) → ((message : Message) → (f message).stamp ≡ stamp) → option_map f found ≡ Some made → made.stamp ≡ stamp
stamp_is f stamp made None same e = absurd cc
stamp_is f stamp made (Some message) same e = ap (λ (call : LogCall). call.stamp) (sym (same_Some (f message) made e)) ∙ same message

-- the line of a call by the clock that counts is that by all clocks
pub made_line : (clocks : List Clock) (clock : Clock) (messages : List Message) (writer ordinal : ℕ) (call : Call) (made : LogCall) → clock_at clocks call.stamp ≡ Some clock → clock.tick ≤ call.stamp
    → log_call messages writer (ordinal, call) ≡ Some made → Line (clock ∷ []) made ≡ Line clocks made
made_line clocks clock messages writer ordinal call made counts since is =
    let stamp = stamp_is (λ message. record { writer = writer; ordinal = ordinal; stamp = call.stamp; message = message; args = call.args }) call.stamp made (slice_get messages call.id) (λ message. refl) is in
    line_by_clock clocks clock made (ap (clock_at clocks) stamp ∙ counts) (subst (λ (n : ℕ). clock.tick ≤ n) (sym stamp) since)
