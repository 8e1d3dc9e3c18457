use Rattle.std.proofs.Common.{◌≡◌, ℕ, List, [], ◌∷◌, ◌++◌, length, append_assoc, subst}
use Rattle.std.specs.Prelude.{OnOk}
use Rattle.std.specs.List.{flat_map}
use Rattle.std.proofs.lemmas.Result.{on_ok_weaker}
use Rattle.log_dictionary.specs.declared.clock.Clock.{Clock}
use Rattle.log_dictionary.specs.Canonical.{messages_text}
use Rattle.trace_text.specs.Recordings.{Recording}
use Rattle.trace_text.specs.Lines.{first_line, writers_line}
use Rattle.trace_text.specs.Canonical.{clock_text, front_text}
use Rattle.trace_text.proofs.writing.push_front.Goals as goal

-- each list is the one before with a part appended
front_joined : (old first messages times count a b c new : List ℕ) → a ≡ old ++ first ++ 10 ∷ [] → b ≡ a ++ messages → c ≡ b ++ times → new ≡ c ++ count ++ 10 ∷ [] → new ≡ old ++ (first ++ 10 ∷ messages ++ times ++ count ++ 10 ∷ [])
front_joined old first messages times count a b c new ea eb ec en = rw (en, ec, eb, ea) (simp append_assoc)

front_written : (old : List ℕ) (run : Recording) (clocks : List Clock) (count : ℕ) (a b c new : List ℕ) → clocks ≡ run.clocks → count ≡ length run.writers → a ≡ old ++ first_line run.version ++ 10 ∷ [] → b ≡ a ++ messages_text run.dictionary → c ≡ b ++ flat_map clock_text clocks → new ≡ c ++ writers_line count ++ 10 ∷ [] → new ≡ old ++ front_text run
front_written old run clocks count a b c new times made ea eb ec en =
    rw (← times, ← made) (front_joined old (first_line run.version) (messages_text run.dictionary) (flat_map clock_text clocks) (writers_line count) a b c new ea eb ec en)

pub returns-clause-written : goal.returns-clause-written
returns-clause-written c =
    let parts = c.trace.inside in
    let run : Recording = record { version = parts.version; dictionary = parts.dictionary; clocks = parts.clocks; writers = parts.writers } in
    let old = c.args.text.now.items in
    subst (λ (r : Recording). OnOk c.push_writers.result (c.push_writers.new.text.items ≡ old ++ front_text r)) c.trace.view_is
    (on_ok_weaker c.push_writers.result
    (front_written old run c.as_slice.result.now c.len.result _ _ _ _ c.as_slice.ensures.value c.len.ensures c.in_ok-push_version.ensures c.in_ok-write_messages.ensures.ok c.in_ok-push_clocks.ensures)
    c.push_writers.ensures)
