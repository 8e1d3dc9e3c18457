-- Each generated trace has a text.
use Rattle.std.proofs.Common.{◌≡◌, ℕ, zero, suc, ◌+◌, ◌*◌, ◌^◌, ◌<◌, ◌≤◌, lit<, lit≤, Bool, true, false, cond, List, [], ◌∷◌, get_or, refl, sym, subst, arith}
use Rattle.std.specs.List.{AllByRecursion}
use Rattle.std.proofs.Math.Dec.{ltb}
use Rattle.std.proofs.lemmas.Bool.{ltb-true}
use Rattle.std.proofs.lemmas.List.Elements.{All-nil, All-cons, All-from_recursion}
use Rattle.nibble_pack.specs.Bytes.{AreBytes}
use Rattle.printf_grammar.specs.declared.piece.Piece.{Piece}
use Rattle.printf_grammar.specs.Spelling.{Spells}
use Rattle.log_dictionary.specs.declared.message.Message.{Message}
use Rattle.log_dictionary.specs.declared.severity.Severity.{Severity}
use Rattle.log_dictionary.specs.Messages.{AreDistinct}
use Rattle.log_dictionary.specs.Canonical.{HasLine}
use Rattle.arg_records.specs.Kinds.{HoldsBytes}
use Rattle.trace_text.specs.Recordings.{Recording}
use Rattle.trace_text.specs.Canonical.{HasCallLine, HasText}
use Rattle.trace_generator.specs.Generated.{next_state, state_after, draw, generated_file, generated_message, generated_messages, drawn_arguments, drawn_call, generator_at, generated_call, Generated}
use Rattle.trace_text.proofs.lemmas.CallRuns.{all-push, all_after, all_at}
use Rattle.printf_grammar.proofs.lemmas.Worked.{all_copies}
use Rattle.trace_generator.proofs.GeneratedFormats.{disk, queue, request, state}
use Rattle.trace_generator.proofs.GeneratedCalls.{draw_below, stamp_within, there, generated_none, generated_next, generated_recorded, generated_writer}

-- ---- messages

abbrev are_low : List ℕ → Bool
are_low [] = true
are_low (byte ∷ bytes) = cond (ltb byte 256) (are_low bytes) false

all_bytes : (bytes : List ℕ) → are_low bytes ≡ true → AreBytes bytes
all_bytes [] low = All-nil (λ (b : ℕ). b < 256)
all_bytes (byte ∷ bytes) low = at_test (ltb byte 256) refl (λ others. all_bytes bytes others) low
  where
    at_test : (b : Bool) → ltb byte 256 ≡ b → (are_low bytes ≡ true → AreBytes bytes) → cond b (are_low bytes) false ≡ true → AreBytes (byte ∷ bytes)
    at_test true e others passed = All-cons (λ (b : ℕ). b < 256) byte bytes (ltb-true byte 256 e) (others passed)
    at_test false e others passed = absurd cc

has_line : (severity : Severity) (line : ℕ) (format : List ℕ) (pieces : List Piece) → are_low format ≡ true → line < 2 ^ 32 → Spells format pieces → HasLine (generated_message severity line format pieces)
has_line severity line format pieces low fits formed = record { file = all_bytes generated_file refl; bytes = all_bytes format low; formed = formed; line_fits = fits }

messages_have_lines : AllByRecursion HasLine generated_messages
messages_have_lines = (has_line _ _ _ _ refl (lit< tt) disk, (has_line _ _ _ _ refl (lit< tt) queue, (has_line _ _ _ _ refl (lit< tt) request, (has_line _ _ _ _ refl (lit< tt) state, tt))))

line_is : (k : ℕ) (d : Message) → k < 4 → (get_or generated_messages k d).line ≡ 10 * (k + 1)
line_is zero d within = refl
line_is (suc zero) d within = refl
line_is (suc (suc zero)) d within = refl
line_is (suc (suc (suc zero))) d within = refl
line_is (suc (suc (suc (suc k)))) d within = absurd (omega (arith, within))

distinct : AreDistinct generated_messages
distinct i j d earlier within same =
    let first = line_is i d (omega (arith, earlier, within)) in
    let second = line_is j d within in
    omega (arith, same.line, first, second, earlier)

-- ---- calls

drawn_bytes : (id state : ℕ) → id < 4 → AllByRecursion HoldsBytes (drawn_arguments id state)
drawn_bytes zero state known = (tt, (tt, tt))
drawn_bytes (suc zero) state known =
    let digit : 48 + draw state 8 < 256 = omega (arith, draw_below state 8 (lit≤ tt)) in
    (All-from_recursion (λ (b : ℕ). b < 256) (113 ∷ (48 + draw state 8) ∷ []) (lit< tt, (digit, tt)), (tt, tt))
drawn_bytes (suc (suc zero)) state known = (tt, (tt, tt))
drawn_bytes (suc (suc (suc zero))) state known = (tt, tt)
drawn_bytes (suc (suc (suc (suc id)))) state known = absurd (omega (arith, known))

has_call_line : (seed k : ℕ) → k ≤ 1000000 → HasCallLine (drawn_call (generator_at seed k))
has_call_line seed k within =
    let generator = generator_at seed k in
    record {
      stamp = omega (arith, stamp_within seed k, within, draw_below (next_state generator.state) 100 (lit≤ tt));
      texts = drawn_bytes (draw generator.state 4) (state_after 2 generator.state) (draw_below generator.state 4 (lit≤ tt));
    }

module _ (seed writers : ℕ) (some : 1 ≤ writers) (few : writers ≤ 64) where
  calls_have_lines : (k : ℕ) → k ≤ 1000000 → AllByRecursion (AllByRecursion HasCallLine) (Generated seed k writers).writers
  calls_have_lines zero within = subst (λ (run : Recording). AllByRecursion (AllByRecursion HasCallLine) run.writers) (sym (generated_none seed writers)) (all_copies (AllByRecursion HasCallLine) [] writers tt)
  calls_have_lines (suc k) within =
      let fewer : k ≤ 1000000 = omega (arith, within) in
      let run = Generated seed k writers in
      let made = generated_call seed writers k in
      let before = calls_have_lines k fewer in
      let at = there run.writers made.writer (generated_writer seed writers some few k fewer) in
      let own = all_at (AllByRecursion HasCallLine) run.writers made.writer at.0 at.1 before in
      subst (λ (run : Recording). AllByRecursion (AllByRecursion HasCallLine) run.writers) (sym (generated_next seed k writers))
      (all_after (AllByRecursion HasCallLine) run.writers made.writer made.call at.0 at.1 (all-push HasCallLine at.0 made.call own (has_call_line seed k fewer)) before)

  pub has_text : (k : ℕ) → k ≤ 1000000 → HasText (Generated seed k writers)
  has_text k within = record {
    recorded = generated_recorded seed writers some few k within;
    messages = record { distinct = distinct; few = lit≤ tt; lines = messages_have_lines };
    calls = calls_have_lines k within;
  }
