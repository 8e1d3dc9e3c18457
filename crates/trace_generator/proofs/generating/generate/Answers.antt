use Rattle.std.proofs.Common.{◌≡◌, ℕ, suc, ◌+◌, ◌%◌, lit≤, List, [], ◌∷◌, length, replicate, ap, sym, ◌∙◌, subst, arith}
use Rattle.log_dictionary.specs.declared.clock.Clock.{Clock}
use Rattle.log_dictionary.specs.declared.message.Message.{Message}
use Rattle.arg_records.specs.declared.call.Call.{Call}
use Rattle.trace_generator.specs.declared.generator.Generator.{Generator}
use Rattle.trace_text.specs.Recordings.{Recording, start_of}
use Rattle.trace_text.specs.Canonical.{HasText}
use Rattle.trace_text.specs.CallReading.{with_call}
use Rattle.trace_generator.specs.Generated.{generated_messages, generated_clock, drawn_call, after_call, generator_at, Generated}
use Rattle.trace_generator.proofs.GeneratedCalls.{generator_below, stamp_within, generated_none, generated_next, generated_writer}
use Rattle.trace_generator.proofs.GeneratedTexts.{has_text}
use Rattle.trace_generator.proofs.generating.generate.Goals as goal

start_is : (messages : List Message) (clocks : List Clock) (writers : List (List Call)) (count : ℕ) → messages ≡ generated_messages → clocks ≡ generated_clock ∷ [] → writers ≡ replicate count []
    → record { version = 1; dictionary = messages; clocks = clocks; writers = writers } ≡ start_of 1 generated_messages (generated_clock ∷ []) count
start_is messages clocks writers count same ticks none = λ i. record { version = 1; dictionary = same i; clocks = ticks i; writers = none i }

one_more : (k : ℕ) → suc k ≡ k + 1
one_more k = omega arith

-- the run with the next call
next_is : (seed k writers : ℕ) (run : Recording) (generator : Generator) (call : Call) → run ≡ Generated seed k writers → generator ≡ generator_at seed k → call ≡ drawn_call generator
    → with_call run (record { writer = k % writers; call = call }) ≡ Generated seed (k + 1) writers
next_is seed k writers run generator call begun there drawn =
    let called : call ≡ drawn_call (generator_at seed k) = drawn ∙ ap drawn_call there in
    (λ i. with_call (begun i) (record { writer = k % writers; call = called i }))
    ∙ sym (generated_next seed k writers)
    ∙ ap (λ (n : ℕ). Generated seed n writers) (one_more k)

pub invariant_of-trace : goal.invariant_of-trace
invariant_of-trace c =
    subst HasText (sym (start_is _ _ _ c.args.writers c.in_ok-messages.ensures c.in_ok-make.ensures c.in_ok-without_calls.ensures ∙ sym (generated_none c.args.seed c.args.writers)))
    (has_text c.args.seed c.args.writers c.requires.some_writer c.requires.few_writers 0 (lit≤ tt))

pub loop-k-init : goal.loop-k-init
loop-k-init c = record {
  trace = start_is _ _ _ c.args.writers c.in_ok-messages.ensures c.in_ok-make.ensures c.in_ok-without_calls.ensures ∙ sym (generated_none c.args.seed c.args.writers);
  generator = c.of_seed-generator.ensures;
}

pub next_call-requires-clause-state : goal.next_call-requires-clause-state
next_call-requires-clause-state c = omega (arith, ap (λ (g : Generator). g.state) c.loop-k.invariant.generator, generator_below c.args.seed c.loop-k.k)

pub next_call-requires-clause-stamp : goal.next_call-requires-clause-stamp
next_call-requires-clause-stamp c = omega (arith, ap (λ (g : Generator). g.stamp) c.loop-k.invariant.generator, stamp_within c.args.seed c.loop-k.k, c.loop-k-test.true, c.requires.few_calls)

pub push_call-requires-clause-writer : goal.push_call-requires-clause-writer
push_call-requires-clause-writer c =
    omega (
      arith,
      ap (λ (run : Recording). length run.writers) c.loop-k.invariant.trace,
      generated_writer c.args.seed c.args.writers c.requires.some_writer c.requires.few_writers c.loop-k.k (omega (arith, c.loop-k-test.true, c.requires.few_calls)),
    )

pub push_call-requires-clause-has_text : goal.push_call-requires-clause-has_text
push_call-requires-clause-has_text c =
    subst HasText (sym (next_is c.args.seed c.loop-k.k c.args.writers c.loop-k.trace c.loop-k.generator c.in_ok-call.call c.loop-k.invariant.trace c.loop-k.invariant.generator c.in_ok-call.ensures.drawn))
    (has_text c.args.seed c.args.writers c.requires.some_writer c.requires.few_writers (c.loop-k.k + 1) (omega (arith, c.loop-k-test.true, c.requires.few_calls)))

pub loop-k-preserved : goal.loop-k-preserved
loop-k-preserved c =
    let seed = c.args.seed in
    let k = c.loop-k.k in
    record {
      trace =
          c.in_ok-push_call.ensures.ok
          ∙ next_is seed k c.args.writers c.loop-k.trace c.loop-k.generator c.in_ok-call.call c.loop-k.invariant.trace c.loop-k.invariant.generator c.in_ok-call.ensures.drawn;
      generator = c.in_ok-call.ensures.moved ∙ ap after_call c.loop-k.invariant.generator ∙ ap (generator_at seed) (one_more k);
    }
