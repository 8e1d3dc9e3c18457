-- Each prefix of the generated calls makes a run that can be recorded.
use Rattle.std.proofs.Common.{◌≡◌, ℕ, zero, suc, ◌+◌, ◌*◌, ◌/◌, ◌%◌, ◌<◌, ◌≤◌, lit<, lit≤, List, [], ◌∷◌, ◌++◌, map, length, replicate, refl, ap, sym, ◌∙◌, subst, arith}
use Rattle.std.proofs.Math.Nat.{mod-lt}
use Rattle.std.specs.Prelude.{Some, slice_get, sum_by}
use Rattle.std.specs.List.{AllByRecursion, range_with_len}
use Rattle.std.proofs.lemmas.List.{length-replicate}
use Rattle.std.proofs.lemmas.List.FromFn.{map-range_with_len_more}
use Rattle.printf_grammar.specs.Types.{IsText}
use Rattle.log_dictionary.specs.declared.message.Message.{Message}
use Rattle.log_dictionary.specs.declared.dictionary.Added.{Added}
use Rattle.log_dictionary.specs.declared.dictionary.Added.TheVariants.{Old, New}
use Rattle.log_dictionary.specs.Additions.{IsAdded}
use Rattle.arg_records.specs.declared.call.Call.{Call}
use Rattle.arg_records.specs.Calls.{IsCall}
use Rattle.arg_records.proofs.lemmas.CallLists.{last_stamp-push}
use Rattle.trace_generator.specs.declared.generator.Generator.{Generator}
use Rattle.trace_text.specs.Recordings.{Recording, start_of, IsRecording}
use Rattle.trace_text.specs.Lines.{WriterCall}
use Rattle.trace_text.specs.Traces.{calls_by}
use Rattle.trace_text.specs.CallReading.{last_stamp, with_call_of, with_call}
use Rattle.trace_generator.specs.Generated.{next_state, state_after, draw, generated_messages, generated_clock, drawn_arguments, drawn_call, after_call, generator_at, generated_call, generated_calls, Generated}
use Rattle.trace_text.proofs.lemmas.CallRuns.{writers_with, with_calls, CanFollow, recorded_after, writers_are, length-with_call_of, sum_by-with_call_of, all_after, all_at}
use Rattle.trace_text.proofs.lemmas.RunSteps.{sum_of_none, one_clock, start_recorded}

-- ---- draws

pub draw_below : (state count : ℕ) → 1 ≤ count → draw state count < count
draw_below state count some = mod-lt (next_state state / 65536) {m = count} (omega (arith, some))

pub state_below : (state : ℕ) → next_state state < 2147483648
state_below state = mod-lt (state * 1103515245 + 12345) (lit< tt)

after_below : (draws state : ℕ) → state < 2147483648 → state_after draws state < 2147483648
after_below zero state below = below
after_below (suc draws) state below = after_below draws (next_state state) (state_below state)

pub generator_below : (seed k : ℕ) → (generator_at seed k).state < 2147483648
generator_below seed zero = mod-lt seed (lit< tt)
generator_below seed (suc k) = after_below (2 + length (drawn_call (generator_at seed k)).args) (generator_at seed k).state (generator_below seed k)

pub stamp_rises : (generator : Generator) → generator.stamp ≤ (drawn_call generator).stamp
stamp_rises generator = omega arith

pub stamp_within : (seed k : ℕ) → (generator_at seed k).stamp ≤ 1000 + k * 99
stamp_within seed zero = omega arith
stamp_within seed (suc k) = omega (arith, stamp_within seed k, draw_below (next_state (generator_at seed k).state) 100 (lit≤ tt))

-- seeds with one state to begin with draw the same
same_generators : (seed other : ℕ) → seed % 2147483648 ≡ other % 2147483648 → (k : ℕ) → generator_at seed k ≡ generator_at other k
same_generators seed other same zero = λ i. record { state = same i; stamp = 1000 }
same_generators seed other same (suc k) = ap after_call (same_generators seed other same k)

pub same_traces : (seed other calls writers : ℕ) → seed % 2147483648 ≡ other % 2147483648 → Generated seed calls writers ≡ Generated other calls writers
same_traces seed other calls writers same = λ i. record {
  version = 1;
  dictionary = generated_messages;
  clocks = generated_clock ∷ [];
  writers = map (calls_by (map (λ k. record { writer = k % writers; call = drawn_call (same_generators seed other same k i) }) (range_with_len 0 calls))) (range_with_len 0 writers);
}

-- ---- a call

is_text : (digit : ℕ) → IsText (113 ∷ (48 + digit) ∷ [])
is_text digit = record { short = lit≤ tt; no_nul = (λ e. cc, (λ e. omega (arith, e), tt)) }

drawn_is_call : (id stamp state : ℕ) → id < 4 → IsCall generated_messages (record { id = id; stamp = stamp; args = drawn_arguments id state })
drawn_is_call zero stamp state known =
    let first = draw_below state 32768 (lit≤ tt) in
    let second = draw_below (next_state state) 32768 (lit≤ tt) in
    record { message = _; known = refl; fits = (omega (arith, first), (omega (arith, second), tt)); short = lit≤ tt }
drawn_is_call (suc zero) stamp state known =
    let percent = draw_below (next_state state) 101 (lit≤ tt) in
    record { message = _; known = refl; fits = (is_text (draw state 8), (record { sfits = omega (arith, percent) }, tt)); short = lit≤ tt }
drawn_is_call (suc (suc zero)) stamp state known =
    let first = draw_below state 32768 (lit≤ tt) in
    let second = draw_below (next_state state) 32768 (lit≤ tt) in
    record { message = _; known = refl; fits = (omega (arith, first), (record { sfits = omega (arith, second) }, tt)); short = lit≤ tt }
drawn_is_call (suc (suc (suc zero))) stamp state known =
    let character = draw_below state 94 (lit≤ tt) in
    record { message = _; known = refl; fits = (record { sfits = omega (arith, character) }, tt); short = lit≤ tt }
drawn_is_call (suc (suc (suc (suc id)))) stamp state known = absurd (omega (arith, known))

pub is_call : (generator : Generator) → IsCall generated_messages (drawn_call generator)
is_call generator = drawn_is_call (draw generator.state 4) _ (state_after 2 generator.state) (draw_below generator.state 4 (lit≤ tt))

-- ---- a message more

line_at : (most : ℕ) (messages : List Message) (id : ℕ) (message : Message) → slice_get messages id ≡ Some message → AllByRecursion (λ other. other.line < most) messages → message.line < most
line_at most [] id message known later = absurd cc
line_at most (first ∷ messages) zero message known later = let same : first ≡ message = cc in subst (λ (m : Message). m.line < most) same later.0
line_at most (first ∷ messages) (suc id) message known later = line_at most messages id message known later.1

pub added : (before after : List Message) (message : Message) (made : Added) → IsAdded before message after made → AllByRecursion (λ other. other.line < message.line) before → after ≡ before ++ message ∷ []
added before after message (Old id) ((other, there, same), is) later = absurd (omega (arith, line_at message.line before id other there later, same.line))
added before after message (New id) (none, place, is) later = is

-- ---- one call more

writers_with-push : (writers : List (List Call)) (calls : List WriterCall) (made : WriterCall) → writers_with writers (calls ++ made ∷ []) ≡ with_call_of (writers_with writers calls) made.writer made.call
writers_with-push writers [] made = refl
writers_with-push writers (first ∷ calls) made = writers_with-push (with_call_of writers first.writer first.call) calls made

calls-push : (seed k writers : ℕ) → generated_calls seed (suc k) writers ≡ generated_calls seed k writers ++ generated_call seed writers k ∷ []
calls-push seed k writers =
    let next : suc k ≡ k + 1 = omega arith in
    ap (λ (n : ℕ). generated_calls seed n writers) next ∙ map-range_with_len_more (generated_call seed writers) 0 k k (omega arith)

generated_is : (seed k writers : ℕ) → Generated seed k writers ≡ with_calls (start_of 1 generated_messages (generated_clock ∷ []) writers) (generated_calls seed k writers)
generated_is seed k writers = ap (λ (lists : List (List Call)). record { version = 1; dictionary = generated_messages; clocks = generated_clock ∷ []; writers = lists }) (sym (writers_are writers (generated_calls seed k writers)))

-- before the first call
pub generated_none : (seed writers : ℕ) → Generated seed 0 writers ≡ start_of 1 generated_messages (generated_clock ∷ []) writers
generated_none seed writers = generated_is seed 0 writers

-- behind the next
pub generated_next : (seed k writers : ℕ) → Generated seed (suc k) writers ≡ with_call (Generated seed k writers) (generated_call seed writers k)
generated_next seed k writers =
    generated_is seed (suc k) writers
    ∙ ap (with_calls (start_of 1 generated_messages (generated_clock ∷ []) writers)) (calls-push seed k writers)
    ∙ ap (λ (lists : List (List Call)). record { version = 1; dictionary = generated_messages; clocks = generated_clock ∷ []; writers = lists }) (writers_with-push (replicate writers []) (generated_calls seed k writers) (generated_call seed writers k))
    ∙ ap (λ (run : Recording). with_call run (generated_call seed writers k)) (sym (generated_is seed k writers))

-- ---- runs that can be recorded

pub there : {A : Type 0} (lists : List A) (place : ℕ) → place < length lists → (list : A) × (slice_get lists place ≡ Some list)
there [] place within = absurd (omega (arith, within))
there (list ∷ lists) zero within = (list, refl)
there (list ∷ lists) (suc place) within = there lists place (omega (arith, within))

-- no writer's last stamp is above this
abbrev EndBy : ℕ → List (List Call) → Type 0
EndBy most lists = AllByRecursion (λ calls. last_stamp 1000 calls ≤ most) lists

end_by-more : (most more : ℕ) (lists : List (List Call)) → most ≤ more → EndBy most lists → EndBy more lists
end_by-more most more [] later all = tt
end_by-more most more (calls ∷ lists) later all = (omega (arith, all.0, later), end_by-more most more lists later all.1)

-- what is so of the run of the first calls
record IsBegun (seed k writers : ℕ) : Type 0 where
  recorded : IsRecording (Generated seed k writers)
  writers_are : length (Generated seed k writers).writers ≡ writers
  count : sum_by length (Generated seed k writers).writers ≡ k
  ends : EndBy (generator_at seed k).stamp (Generated seed k writers).writers

none_end : (n most : ℕ) → 1000 ≤ most → EndBy most (replicate n [])
none_end zero most later = tt
none_end (suc n) most later = (later, none_end n most later)

module _ (seed writers : ℕ) (some : 1 ≤ writers) (few : writers ≤ 64) where
  known_writer : (k : ℕ) → length (Generated seed k writers).writers ≡ writers → k % writers < length (Generated seed k writers).writers
  known_writer k are = omega (arith, mod-lt k {m = writers} (omega (arith, some)), are)

  begun : (k : ℕ) → k ≤ 1000000 → IsBegun seed k writers
  begun zero within =
      let none = generated_none seed writers in
      let no_call : List Call = [] in
      record {
        recorded = subst IsRecording (sym none) (start_recorded 1 generated_messages (generated_clock ∷ []) writers refl (one_clock 1 generated_clock (lit≤ tt) (record { tick = lit< tt; nanos = lit< tt; rate = lit< tt })) some few);
        writers_are = ap (λ (run : Recording). length run.writers) none ∙ length-replicate writers no_call;
        count = ap (λ (run : Recording). sum_by length run.writers) none ∙ sum_of_none writers;
        ends = subst (λ (run : Recording). EndBy 1000 run.writers) (sym none) (none_end writers 1000 (lit≤ tt));
      }
  begun (suc k) within =
      let before = begun k (omega (arith, within)) in
      let run = Generated seed k writers in
      let generator = generator_at seed k in
      let made = generated_call seed writers k in
      let next = generated_next seed k writers in
      let at = there run.writers (k % writers) (known_writer k before.writers_are) in
      let last = all_at (λ calls. last_stamp 1000 calls ≤ generator.stamp) run.writers made.writer at.0 at.1 before.ends in
      let can : CanFollow run made = record {
        few = omega (arith, before.count, within);
        calls = at.0;
        known = at.1;
        risen = omega (arith, last, stamp_rises generator);
        is_call = is_call generator;
      } in
      record {
        recorded = subst IsRecording (sym next) (recorded_after run made before.recorded can);
        writers_are = ap (λ (run : Recording). length run.writers) next ∙ length-with_call_of run.writers made.writer made.call ∙ before.writers_are;
        count = omega (arith, ap (λ (run : Recording). sum_by length run.writers) next, sum_by-with_call_of run.writers made.writer made.call at.0 at.1, before.count);
        ends = subst (λ (run : Recording). EndBy made.call.stamp run.writers) (sym next)
            (all_after (λ calls. last_stamp 1000 calls ≤ made.call.stamp) run.writers made.writer made.call at.0 at.1
            (omega (arith, last_stamp-push 1000 at.0 made.call))
            (end_by-more generator.stamp made.call.stamp run.writers (stamp_rises generator) before.ends));
      }

  pub generated_recorded : (k : ℕ) → k ≤ 1000000 → IsRecording (Generated seed k writers)
  generated_recorded k within = (begun k within).recorded

  pub generated_writer : (k : ℕ) → k ≤ 1000000 → k % writers < length (Generated seed k writers).writers
  generated_writer k within = known_writer k (begun k within).writers_are
