-- A text is that of one run, or it is refused at one line from one cause.
use Rattle.std.proofs.Common.{◌≡◌, ◌⊎◌, ℕ, ◌≤◌, Bool, true, false, ltb, List, length, Some, None, Result, Ok, Err, refl, sym, ap, subst, ◌∙◌, inl, inr, arith}
use Rattle.std.proofs.lemmas.Bool.{ltb-true, ltb-false}
use Rattle.trace_text.specs.declared.cause.TraceCause.{TraceCause}
use Rattle.trace_text.specs.declared.cause.TraceCause.TheVariants.{TooLarge}
use Rattle.trace_text.specs.declared.reading.TraceFault.{TraceFault}
use Rattle.trace_text.specs.declared.trace.TheConstants.{MAX_TRACE}
use Rattle.trace_text.specs.Recordings.{Recording}
use Rattle.trace_text.specs.Traces.{TraceText}
use Rattle.trace_text.specs.Reading.{Broken, opening, Gives, TraceBreak}
use Rattle.trace_text.specs.TraceReading.{IsAnswer, IsOnlyAnswer}
use Rattle.nl_io.specs.Content.{Told}
use Rattle.std.specs.Option.{IfSome}
use Rattle.trace_text.proofs.TextReads.{text_reads}
use Rattle.trace_text.proofs.ReadTexts.{read_spells}
use Rattle.trace_text.proofs.OneOutcome.{one_outcome}
use Rattle.trace_text.proofs.SomeOutcome.{some_outcome}
use Rattle.trace_text.proofs.OnlyAnswers.{only_one}

abbrev pub ok_of : Recording → Result Recording Broken
ok_of run = Ok run

abbrev pub err_of : ℕ → TraceCause → Result Recording Broken
err_of line cause = Err (record { line = line; cause = cause })

same_run : (a b : Recording) → ok_of a ≡ ok_of b → a ≡ b
same_run a b e = cc

pub same_break : (i j : ℕ) (a b : TraceCause) → err_of i a ≡ err_of j b → (i ≡ j) × (a ≡ b)
same_break i j a b e =
    let same : ◌≡◌ {A = Broken} (record { line = i; cause = a }) (record { line = j; cause = b }) = cc in
    (ap (λ (broken : Broken). broken.line) same, ap (λ (broken : Broken). broken.cause) same)

pub no_run_breaks : (run : Recording) (line : ℕ) (cause : TraceCause) → ¬ (ok_of run ≡ err_of line cause)
no_run_breaks run line cause e = cc

pub one_run : (bytes : List ℕ) (a b : Recording) → TraceText bytes a → TraceText bytes b → a ≡ b
one_run bytes a b first second = same_run a b (one_outcome opening 1 bytes (ok_of a) (ok_of b) (text_reads bytes a first) (text_reads bytes b second))

pub not_broken : (bytes : List ℕ) (run : Recording) (line : ℕ) (cause : TraceCause) → TraceText bytes run → ¬ (TraceBreak bytes line cause)
not_broken bytes run line cause text (inl large) = omega (arith, text.short, large.0)
not_broken bytes run line cause text (inr breaks) = no_run_breaks run line cause (one_outcome opening 1 bytes (ok_of run) (err_of line cause) (text_reads bytes run text) breaks.1)

pub one_break : (bytes : List ℕ) (i j : ℕ) (a b : TraceCause) → TraceBreak bytes i a → TraceBreak bytes j b → (i ≡ j) × (a ≡ b)
one_break bytes i j a b (inl first) (inl second) = (first.1 ∙ sym second.1, first.2 ∙ sym second.2)
one_break bytes i j a b (inl first) (inr second) = absurd (omega (arith, first.0, second.0))
one_break bytes i j a b (inr first) (inl second) = absurd (omega (arith, first.0, second.0))
one_break bytes i j a b (inr first) (inr second) = same_break i j a b (one_outcome opening 1 bytes (err_of i a) (err_of j b) first.1 second.1)

-- what a text is: that of a run, or refused
abbrev Outcome : List ℕ → Type 0
Outcome bytes = ((run : Recording) × TraceText bytes run) ⊎ ((line : ℕ) × (cause : TraceCause) × TraceBreak bytes line cause)

told_by : (bytes : List ℕ) (outcome : Result Recording Broken) → length bytes ≤ MAX_TRACE → Gives opening 1 bytes outcome → Outcome bytes
told_by bytes (Ok run) short gives = inl (run, read_spells bytes run short gives)
told_by bytes (Err broken) short gives = inr (broken.line, broken.cause, inr (short, gives))

told_at : (bytes : List ℕ) (large : Bool) → ltb MAX_TRACE (length bytes) ≡ large → Outcome bytes
told_at bytes true large = inr (0, TooLarge, inl (ltb-true _ _ large, refl, refl))
told_at bytes false small = let found = some_outcome opening 1 bytes in told_by bytes found.0 (ltb-false _ _ small) found.1

pub one_holds : (bytes : List ℕ) → Outcome bytes
one_holds bytes = told_at bytes (ltb MAX_TRACE (length bytes)) refl

-- ---- answers

pub only_answer : (text : List ℕ) (r : Result Recording TraceFault) → IsAnswer text r → IsOnlyAnswer text r
only_answer text r answer = only_one (TraceText text) (TraceBreak text) (record { one_value = one_run text; not_both = not_broken text; one_refusal = one_break text }) r answer

-- the same of what a source had left, where that is told
pub only_told : (told : Told) (items text : List ℕ) (r : Result Recording TraceFault) → IfSome told (λ left. items ≡ left) → text ≡ items → IsAnswer text r → IfSome told (λ left. IsOnlyAnswer left r)
only_told None items text r read same answer = tt
only_told (Some left) items text r read same answer = subst (λ (bytes : List ℕ). IsOnlyAnswer bytes r) (same ∙ read) (only_answer text r answer)
