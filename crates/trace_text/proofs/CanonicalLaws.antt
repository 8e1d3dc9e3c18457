-- The canonical text of a run is one of its texts.
use Rattle.std.proofs.Common.{◌≡◌, ℕ, suc, ◌+◌, ◌<◌, ◌≤◌, Bool, true, false, cond, eqb, List, [], ◌∷◌, ◌++◌, map, length, Option, Some, None, refl, ap, sym, ◌∙◌, add-zero, append_assoc, arith}
use Rattle.std.specs.Prelude.{filter, slice_get, codes, option_and_then}
use Rattle.std.specs.Option.{option_map}
use Rattle.std.specs.List.{AllByRecursion, flat_map, filter_map, cons_option, enumerate_from, range_with_len}
use Rattle.std.proofs.lemmas.Option.{same_Some, slice_get_within}
use Rattle.printf_grammar.specs.declared.argument.Value.{Value}
use Rattle.printf_grammar.specs.declared.argument.Value.TheVariants as values
use Rattle.log_dictionary.specs.declared.dictionary.TheConstants.{MAX_MESSAGES}
use Rattle.log_dictionary.specs.declared.message.Message.{Message}
use Rattle.log_dictionary.specs.Canonical.{canonical_text, message_line, message_text, messages_text, HasLine}
use Rattle.log_dictionary.specs.Calls.{LogCall}
use Rattle.log_dictionary.specs.Clocks.{first_tick}
use Rattle.log_dictionary.proofs.lemmas.Written.{written_text, written_message}
use Rattle.arg_records.specs.declared.call.Call.{Call}
use Rattle.arg_records.specs.Kinds.{HoldsBytes}
use Rattle.arg_records.specs.Calls.{IsCall, NeverFalls, log_call}
use Rattle.direct_printf.specs.Lines.{in_order}
use Rattle.trace_text.specs.declared.order.CallPlace.{CallPlace}
use Rattle.trace_text.specs.declared.trace.TheConstants.{MAX_TRACE}
use Rattle.trace_text.specs.Recordings.{Recording, calls_of}
use Rattle.trace_text.specs.Order.{call_place}
use Rattle.trace_text.specs.Lines.{WriterCall, first_line, last_line, clock_line, writers_line, SpellsArgumentFields, SpellsCall, SpellsMessages, SpellsCalls, text_of_lines}
use Rattle.trace_text.specs.Traces.{TraceText, calls_by}
use Rattle.trace_text.specs.Canonical.{argument_text, call_line, call_text, clock_text, made_by, made_at, calls_in_order, Canonical, HasCallLine, HasText}
use Rattle.trace_text.proofs.lemmas.CallRuns.{all_at}
use Rattle.trace_text.proofs.lemmas.OwnCalls.{is_of, own_in_order}

-- ---- what stands at a place

-- a call that was made has a place among its writer's
record IsMade (run : Recording) (made : WriterCall) : Type 0 where
  calls : List Call
  ordinal : ℕ
  of_writer : slice_get run.writers made.writer ≡ Some calls
  at_ordinal : slice_get calls ordinal ≡ Some made.call

found_made : (run : Recording) (place : CallPlace) (made : WriterCall) → made_at run place ≡ Some made → IsMade run made × (made.writer ≡ place.writer)
found_made run place made is = by_writer (slice_get run.writers place.writer) refl is
  where
    by_call : (calls : List Call) (o : Option Call) → slice_get run.writers place.writer ≡ Some calls → slice_get calls place.ordinal ≡ o → option_map (made_by place.writer) o ≡ Some made → IsMade run made × (made.writer ≡ place.writer)
    by_call calls None there at found = absurd cc
    by_call calls (Some call) there at found =
        let same : made_by place.writer call ≡ made = same_Some _ made found in (
          record { calls = calls; ordinal = place.ordinal; of_writer = ap (λ (m : WriterCall). slice_get run.writers m.writer) (sym same) ∙ there; at_ordinal = at ∙ ap (λ (m : WriterCall). Some m.call) same },
          ap (λ (m : WriterCall). m.writer) (sym same),
        )

    by_writer : (o : Option (List Call)) → slice_get run.writers place.writer ≡ o → option_and_then (λ calls. option_map (made_by place.writer) (slice_get calls place.ordinal)) o ≡ Some made → IsMade run made × (made.writer ≡ place.writer)
    by_writer None there found = absurd cc
    by_writer (Some calls) there found = by_call calls (slice_get calls place.ordinal) there refl found

all_made : (run : Recording) (P : WriterCall → Type 0) → ((made : WriterCall) → IsMade run made → P made) → (places : List CallPlace) → AllByRecursion P (filter_map (made_at run) places)
all_made run P holds [] = tt
all_made run P holds (place ∷ places) = at_place (made_at run place) refl (all_made run P holds places)
  where
    at_place : (o : Option WriterCall) → made_at run place ≡ o → AllByRecursion P (filter_map (made_at run) places) → AllByRecursion P (cons_option o (filter_map (made_at run) places))
    at_place None is behind = behind
    at_place (Some made) is behind = (holds made (found_made run place made is).0, behind)

-- ---- the calls of each writer

module _ (run : Recording) (writer : ℕ) where
  -- the calls that are its own stand at the places of those that are its own
  own_places : (calls : List LogCall) → filter (λ (made : WriterCall). eqb made.writer writer) (filter_map (made_at run) (map call_place calls)) ≡ filter_map (made_at run) (map call_place (filter (is_of writer) calls))
  own_places [] = refl
  own_places (call ∷ calls) = at_call (made_at run (call_place call)) refl (own_places calls)
    where
      with_own : (made : WriterCall) (own : Bool) (others : List LogCall) → made_at run (call_place call) ≡ Some made → filter_map (made_at run) (map call_place (cond own (call ∷ others) others)) ≡ cond own (made ∷ filter_map (made_at run) (map call_place others)) (filter_map (made_at run) (map call_place others))
      with_own made true others is = rw is refl
      with_own made false others is = refl

      without : (own : Bool) (others : List LogCall) → made_at run (call_place call) ≡ None → filter_map (made_at run) (map call_place (cond own (call ∷ others) others)) ≡ filter_map (made_at run) (map call_place others)
      without true others is = rw is refl
      without false others is = refl

      at_call : (o : Option WriterCall) → made_at run (call_place call) ≡ o → filter (λ (made : WriterCall). eqb made.writer writer) (filter_map (made_at run) (map call_place calls)) ≡ filter_map (made_at run) (map call_place (filter (is_of writer) calls))
          → filter (λ (made : WriterCall). eqb made.writer writer) (cons_option o (filter_map (made_at run) (map call_place calls))) ≡ filter_map (made_at run) (map call_place (cond (is_of writer call) (call ∷ filter (is_of writer) calls) (filter (is_of writer) calls)))
      at_call None is behind = behind ∙ sym (without (is_of writer call) (filter (is_of writer) calls) is)
      at_call (Some made) is behind =
          ap (λ (n : ℕ). cond (eqb n writer) (made ∷ filter (λ (m : WriterCall). eqb m.writer writer) (filter_map (made_at run) (map call_place calls))) (filter (λ (m : WriterCall). eqb m.writer writer) (filter_map (made_at run) (map call_place calls)))) (found_made run (call_place call) made is).1
          ∙ ap (λ (others : List WriterCall). cond (is_of writer call) (made ∷ others) others) behind
          ∙ sym (with_own made (is_of writer call) (filter (is_of writer) calls) is)

  -- what stands at the places of its calls are its calls
  module _ (calls : List Call) (known : slice_get run.writers writer ≡ Some calls) where
    own_found : (n : ℕ) (rest : List Call) → ((k : ℕ) → slice_get calls (n + k) ≡ slice_get rest k) → AllByRecursion (IsCall run.dictionary) rest
        → map (λ (made : WriterCall). made.call) (filter_map (made_at run) (map call_place (filter_map (log_call run.dictionary writer) (enumerate_from n rest)))) ≡ rest
    own_found n [] found all = refl
    own_found n (call ∷ rest) found all =
        let here : slice_get calls n ≡ Some call = ap (slice_get calls) (sym (add-zero n)) ∙ found 0 in
        let next = own_found (n + 1) rest (λ k. let same : n + 1 + k ≡ n + suc k = omega arith in ap (slice_get calls) same ∙ found (suc k)) all.1 in
        rw (all.0.known, known, here) (ap (λ (cs : List Call). call ∷ cs) next)

    own_again : HasText run → calls_by (calls_in_order run) writer ≡ calls
    own_again has =
        let all = has.recorded.calls in
        let own = all_at (AllByRecursion (IsCall run.dictionary)) run.writers writer calls known all in
        ap (map (λ (made : WriterCall). made.call)) (own_places (in_order (calls_of run)) ∙ ap (λ (cs : List LogCall). filter_map (made_at run) (map call_place cs)) (own_in_order run.dictionary run.writers writer (first_tick run.clocks) calls known all own (all_at (NeverFalls (first_tick run.clocks)) run.writers writer calls known has.recorded.stamps)))
        ∙ own_found 0 calls (λ k. let same : 0 + k ≡ k = omega arith in ap (slice_get calls) same) own

restored : (f : ℕ → List Call) (n : ℕ) (writers : List (List Call)) → ((k : ℕ) (calls : List Call) → slice_get writers k ≡ Some calls → f (n + k) ≡ calls) → writers ≡ map f (range_with_len n (length writers))
restored f n [] found = refl
restored f n (calls ∷ writers) found =
    ap (λ (cs : List Call). cs ∷ writers) (sym (ap f (sym (add-zero n)) ∙ found 0 calls refl))
    ∙ ap (λ (ws : List (List Call)). f n ∷ ws) (restored f (n + 1) writers (λ k cs at. let same : n + 1 + k ≡ n + suc k = omega arith in ap f same ∙ found (suc k) cs at))

-- ---- the lines

abbrev pub lines_of : ℕ → List Message → List (List ℕ)
lines_of n [] = []
lines_of n (message ∷ messages) = message_line n message ∷ lines_of (n + 1) messages

pub message_lines_are : (n : ℕ) (messages : List Message) → flat_map message_text (enumerate_from n messages) ≡ text_of_lines (lines_of n messages)
message_lines_are n [] = refl
message_lines_are n (message ∷ messages) =
    append_assoc (message_line n message) (10 ∷ []) (flat_map message_text (enumerate_from (n + 1) messages))
    ∙ ap (λ (bytes : List ℕ). message_line n message ++ 10 ∷ bytes) (message_lines_are (n + 1) messages)

ended_lines_are : {X : Type 0} (line : X → List ℕ) (xs : List X) → flat_map (λ (x : X). line x ++ 10 ∷ []) xs ≡ text_of_lines (map line xs)
ended_lines_are line [] = refl
ended_lines_are {X} line (x ∷ xs) = append_assoc (line x) (10 ∷ []) (flat_map (λ (x : X). line x ++ 10 ∷ []) xs) ∙ ap (λ (bytes : List ℕ). line x ++ 10 ∷ bytes) (ended_lines_are line xs)

pub lines_follow : (a b : List (List ℕ)) → text_of_lines (a ++ b) ≡ text_of_lines a ++ text_of_lines b
lines_follow [] b = refl
lines_follow (line ∷ a) b = ap (λ (bytes : List ℕ). line ++ 10 ∷ bytes) (lines_follow a b) ∙ sym (append_assoc line (10 ∷ text_of_lines a) (text_of_lines b))

regroup : (first messages times count calls last : List ℕ) → (((((first ++ messages) ++ times) ++ count) ++ 10 ∷ []) ++ calls) ++ last ≡ first ++ (messages ++ (times ++ (count ++ 10 ∷ (calls ++ last))))
regroup first messages times count calls last = simp append_assoc

whole_text : (run : Recording) → Canonical run ≡ text_of_lines (first_line run.version ∷ lines_of 0 run.dictionary ++ (map clock_line run.clocks ++ (writers_line (length run.writers) ∷ map call_line (calls_in_order run) ++ last_line ∷ [])))
whole_text run =
    let calls = calls_in_order run in
    let first = first_line run.version in
    let count = writers_line (length run.writers) in
    let call_lines : List (List ℕ) = map call_line calls ++ last_line ∷ [] in
    let written : flat_map call_text calls ++ codes "end\n" ≡ text_of_lines call_lines = ap (λ (bytes : List ℕ). bytes ++ codes "end\n") (ended_lines_are call_line calls) ∙ sym (lines_follow (map call_line calls) (last_line ∷ [])) in
    let timed : flat_map clock_text run.clocks ++ text_of_lines (count ∷ call_lines) ≡ text_of_lines (map clock_line run.clocks ++ count ∷ call_lines) = ap (λ (bytes : List ℕ). bytes ++ text_of_lines (count ∷ call_lines)) (ended_lines_are clock_line run.clocks) ∙ sym (lines_follow (map clock_line run.clocks) (count ∷ call_lines)) in
    regroup first (10 ∷ messages_text run.dictionary) (flat_map clock_text run.clocks) count (flat_map call_text calls) (codes "end\n")
    ∙ ap (λ (bytes : List ℕ). first ++ 10 ∷ (messages_text run.dictionary ++ (flat_map clock_text run.clocks ++ (count ++ 10 ∷ bytes)))) written
    ∙ ap (λ (bytes : List ℕ). first ++ 10 ∷ (messages_text run.dictionary ++ bytes)) timed
    ∙ ap (λ (bytes : List ℕ). first ++ 10 ∷ (bytes ++ text_of_lines (map clock_line run.clocks ++ count ∷ call_lines))) (message_lines_are 0 run.dictionary)
    ∙ ap (λ (bytes : List ℕ). first ++ 10 ∷ bytes) (sym (lines_follow (lines_of 0 run.dictionary) (map clock_line run.clocks ++ count ∷ call_lines)))

-- ---- what the lines spell

pub spells_messages : (n : ℕ) (messages : List Message) → n + length messages ≤ MAX_MESSAGES → AllByRecursion HasLine messages → SpellsMessages n (lines_of n messages) messages
spells_messages n [] few all = tt
spells_messages n (message ∷ messages) few all = (written_message n message (omega (arith, few)) all.0, spells_messages (n + 1) messages (omega (arith, few)) all.1)

spells_arguments : (args : List Value) → AllByRecursion HoldsBytes args → SpellsArgumentFields (flat_map argument_text args) args
spells_arguments [] all = refl
spells_arguments (values.Signed z ∷ args) all = (_, flat_map argument_text args, refl, refl, spells_arguments args all.1)
spells_arguments (values.Unsigned n ∷ args) all = (_, flat_map argument_text args, refl, refl, spells_arguments args all.1)
spells_arguments (values.Text bytes ∷ args) all = (_, flat_map argument_text args, refl, (canonical_text bytes, refl, written_text bytes all.0), spells_arguments args all.1)

spells_call : (made : WriterCall) → HasCallLine made.call → SpellsCall (call_line made) made
spells_call made has = record { fields = flat_map argument_text made.call.args; spelled = refl; arguments = spells_arguments made.call.args has.texts; stamp_fits = has.stamp }

spells_calls : (calls : List WriterCall) → AllByRecursion (λ made. HasCallLine made.call) calls → SpellsCalls (map call_line calls) calls
spells_calls [] all = tt
spells_calls (made ∷ calls) all = (spells_call made all.0, spells_calls calls all.1)

-- the canonical text of a run that has a text spells it, where it is within the limit
pub canonical_spells : (run : Recording) → HasText run → length (Canonical run) ≤ MAX_TRACE → TraceText (Canonical run) run
canonical_spells run has short =
    let calls = calls_in_order run in record {
      short = short;
      message_lines = lines_of 0 run.dictionary;
      call_lines = map call_line calls;
      calls = calls;
      whole = whole_text run;
      messages_spelled = spells_messages 0 run.dictionary (omega (arith, has.messages.few)) has.messages.lines;
      distinct = has.messages.distinct;
      few_messages = has.messages.few;
      calls_spelled = spells_calls calls (all_made run (λ made. HasCallLine made.call) (λ made is. all_at HasCallLine is.calls is.ordinal made.call is.at_ordinal (all_at (AllByRecursion HasCallLine) run.writers made.writer is.calls is.of_writer has.calls)) _);
      known_writers = all_made run (λ made. made.writer < length run.writers) (λ made is. slice_get_within run.writers made.writer is.calls is.of_writer) _;
      by_writer = restored (calls_by calls) 0 run.writers (λ k cs at. let same : 0 + k ≡ k = omega arith in ap (calls_by calls) same ∙ own_again run k cs at has);
      recorded = has.recorded;
    }
