-- A word that the writer stores, a wrap mark or a word of a frame.
use Rattle.std.proofs.Common.{◌≡◌, ℕ, ◌+◌, true, false, true≢false, List, [], ◌∷◌, refl, sym, ap, subst, eqb-true}
use Rattle.std.specs.Prelude.{if◌then◌else◌, None}
use Rattle.std.proofs.lemmas.Bool.{cond_both}
use Rattle.ring_machine.specs.declared.steps.StepKind.{StepKind}
use Rattle.ring_machine.specs.declared.steps.StepKind.TheVariants as steps
use Rattle.ring_machine.specs.Streams.{is_wrap_mark, FitsWithin}
use Rattle.ring_machine.specs.RingStates.{RingState}
use Rattle.ring_machine.specs.Steps.{is_writers, stored, after_step}
use Rattle.ring_machine.proofs.lemmas.Bars.{may_store, may_skip}
use Rattle.word_ring.specs.declared.known.Known.{Known}
use Rattle.word_ring.specs.Plays.{written_by, writer_barred, put_step}

-- a wrap mark is 0, where no frame is begun
mark_zero : (part : List ℕ) (word : ℕ) → is_wrap_mark part word ≡ true → word ≡ 0
mark_zero [] word e = eqb-true word 0 e
mark_zero (head ∷ words) word e = absurd (true≢false (sym e))

mark_whole : (part : List ℕ) (word : ℕ) → is_wrap_mark part word ≡ true → part ≡ []
mark_whole [] word e = refl
mark_whole (head ∷ words) word e = absurd (true≢false (sym e))

-- it is stored as any other word
pub put_stores : (ring : RingState) (part : List ℕ) (word : ℕ) → stored ring word ≡ after_step ring (if is_wrap_mark part word then steps.Skip else steps.Store word)
put_stores ring part word =
    cond_both (is_wrap_mark part word) steps.Skip (steps.Store word) (λ (kind : StepKind). stored ring word ≡ after_step ring kind)
    (λ e. ap (stored ring) (mark_zero part word e)) (λ _. refl)

pub put_writes : (part : List ℕ) (word : ℕ) → is_writers (if is_wrap_mark part word then steps.Skip else steps.Store word) ≡ true
put_writes part word = cond_both (is_wrap_mark part word) steps.Skip (steps.Store word) (λ (kind : StepKind). is_writers kind ≡ true) (λ _. refl) (λ _. refl)

-- a word that fits isn't barred
pub may_put : (v : Known) (word : ℕ) → v.writer.closed ≡ false → FitsWithin v.size (v.writer.seen + v.size) (written_by v) word → writer_barred v (put_step v word) ≡ None
may_put v word unclosed fits =
    let part : List ℕ = (written_by v).part in
    cond_both (is_wrap_mark part word) steps.Skip (steps.Store word) (λ (kind : StepKind). writer_barred v kind ≡ None)
    (λ e. may_skip v.size v.writer unclosed (mark_whole part word e) (subst (FitsWithin v.size (v.writer.seen + v.size) (written_by v)) (mark_zero part word e) fits))
    (λ e. may_store v.size v.writer word unclosed e fits)
