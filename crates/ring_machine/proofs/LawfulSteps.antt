-- Frames stay lawful with each step.
use Rattle.std.proofs.Common.{◌≡◌, ℕ, true, false, List, [], ◌∷◌, ◌++◌, sym, ap, ◌∙◌, subst, true≢false}
use Rattle.std.specs.Prelude.{None}
use Rattle.ring_core.specs.Plans.{Plan, Lawful}
use Rattle.ring_machine.specs.declared.steps.StepKind.{StepKind}
use Rattle.ring_machine.specs.declared.steps.StepKind.TheVariants as steps
use Rattle.ring_machine.specs.Streams.{Walk, is_whole_frame, is_wrap_mark, onward}
use Rattle.ring_machine.specs.RingStates.{RingState, written, RingOk, RingLawful}
use Rattle.ring_machine.specs.Steps.{barred, after_step, stored, is_store}
use Rattle.ring_machine.proofs.lemmas.Walks.{onward_cases, onward-skipped, walk-push}
use Rattle.ring_machine.proofs.lemmas.Bars.{skip_open}
use Rattle.ring_machine.proofs.lemmas.Schedules.{RingOk-after, lawful_read}

pub lawful_stored : (plan : Plan) (s : RingState) (word : ℕ) → RingLawful plan s
    → (is_whole_frame ((written s).part ++ word ∷ []) ≡ true → Lawful plan ((written s).frames ++ ((written s).part ++ word ∷ []) ∷ [])) → RingLawful plan (stored s word)
lawful_stored plan s word h whole =
    let now : Lawful plan (onward s.size (written s) word).frames = onward_cases (λ v. Lawful plan v.frames) s.size (written s) word (λ _. h.stored) (λ _ e. whole e) (λ _ _. h.stored) in
    record { stored = subst (λ (v : Walk). Lawful plan v.frames) (sym (walk-push s.size s.writer.stream word)) now; read = h.read }

pub lawful_other : (plan : Plan) (s : RingState) (step : StepKind) → RingOk s → RingLawful plan s → barred s step ≡ None → is_store step ≡ false → RingLawful plan (after_step s step)
lawful_other plan s steps.Look ok h unbarred e = record { stored = h.stored; read = h.read }
lawful_other plan s (steps.Store word) ok h unbarred e = absurd (true≢false e)
lawful_other plan s steps.Skip ok h unbarred e =
    let whole = (skip_open s.size s.writer unbarred).1 in
    let w : Walk = written s in
    let skip = onward-skipped s.size w 0 (ap (λ (part : List ℕ). is_wrap_mark part 0) whole) in
    let same : (written (stored s 0)).frames ≡ w.frames = ap (λ (v : Walk). v.frames) (walk-push s.size s.writer.stream 0 ∙ skip) in
    record { stored = subst (Lawful plan) (sym same) h.stored; read = h.read }
lawful_other plan s steps.Publish ok h unbarred e = record { stored = h.stored; read = h.read }
lawful_other plan s steps.Close ok h unbarred e = record { stored = h.stored; read = h.read }
lawful_other plan s steps.Load ok h unbarred e = record { stored = h.stored; read = h.read }
lawful_other plan s steps.Read ok h unbarred e = lawful_read plan (after_step s steps.Read) (RingOk-after s steps.Read ok unbarred) h.stored
lawful_other plan s steps.Release ok h unbarred e = record { stored = h.stored; read = h.read }
