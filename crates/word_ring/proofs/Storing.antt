-- A frame that the writer stores, word by word.
use Rattle.std.proofs.Common.{◌≡◌, ℕ, suc, ◌+◌, ◌%◌, ◌<◌, ◌≤◌, List, [], ◌∷◌, ◌++◌, length, get_or, take, false, refl, sym, ap, ◌∙◌, subst, ⊎_elim, append_assoc, length-take-le, take-suc, take_all, arith}
use Rattle.std.specs.Prelude.{None}
use Rattle.std.proofs.lemmas.Bool.{cases_lt, cond_both}
use Rattle.nl_io.specs.Count.{counted}
use Rattle.ring_core.specs.Plans.{Lawful}
use Rattle.ring_core.proofs.lemmas.Frames.{Lawful-front}
use Rattle.ring_machine.specs.Streams.{Walk, is_whole_frame, onward, Begins, FitsWithin}
use Rattle.ring_machine.proofs.lemmas.Walks.{walk-push}
use Rattle.word_ring.specs.declared.known.Known.{Known}
use Rattle.word_ring.specs.Counts.{CountsSteps}
use Rattle.word_ring.specs.Ends.{IsTableSize}
use Rattle.word_ring.proofs.Counting.{one_step, steps_then}
use Rattle.word_ring.specs.Frames.{with_frame, with_part, with_words, having_stored, MayStore}
use Rattle.word_ring.specs.Plays.{written_by, writer_barred, put_step, having_put}
use Rattle.word_ring.specs.Rule.{plan_in}
use Rattle.word_ring.proofs.Puts.{may_put}
use Rattle.word_ring.proofs.FrameWords.{HasHead, lawful_head, frame_begins, frame_goes_on, next_words, next_fits, place_further, all_words, parted_words}

-- so many of the frame's words are stored
pub record HasStoredWords (before now : Known) (frame : List ℕ) (i : ℕ) : Type 0 where
  pub within : i ≤ length frame
  pub same : now ≡ having_stored before (take i frame) now.writer.steps
  pub written : written_by now ≡ with_words (written_by before) (take i frame)
  pub steps : CountsSteps i before.writer.steps now.writer.steps

-- the position behind words of a frame
pub with_words-at : (w : Walk) (words : List ℕ) → (with_words w words).at ≡ w.at + length words
with_words-at w [] = omega arith
with_words-at w (head ∷ words) = cond_both (is_whole_frame (head ∷ words)) (with_frame w (head ∷ words)) (with_part w (head ∷ words)) (λ v. v.at ≡ w.at + length (head ∷ words)) (λ _. refl) (λ _. refl)

module _ (before : Known) (frame : List ℕ) (may : MayStore before frame) where
  head_of : HasHead frame
  head_of = lawful_head (plan_in before) (written_by before).frames frame may.lawful

  -- the frames behind one word more of the frame are lawful
  lawful_words : (i : ℕ) → i < length frame → Lawful (plan_in before) (with_words (written_by before) (take (suc i) frame)).frames
  lawful_words i within =
      ⊎_elim
      (λ (part : suc i < length frame).
      subst (λ (w : Walk). Lawful (plan_in before) w.frames) (sym (part_is frame i head_of part))
      (Lawful-front (plan_in before) (written_by before).frames (frame ∷ []) may.lawful))
      (λ (all : length frame ≤ suc i).
      subst (λ (words : List ℕ). Lawful (plan_in before) (with_words (written_by before) words).frames) (sym (take_all (suc i) frame all))
      (subst (λ (w : Walk). Lawful (plan_in before) w.frames) (sym (all_words (written_by before) frame head_of)) may.lawful))
      (cases_lt (suc i) (length frame))
    where
      part_is : (frame : List ℕ) (i : ℕ) → HasHead frame → suc i < length frame → with_words (written_by before) (take (suc i) frame) ≡ with_part (written_by before) (take (suc i) frame)
      part_is [] i has part = absurd (omega (arith, part))
      part_is (head ∷ words) i has part = parted_words (written_by before) head (take i words) (omega (arith, has.tells, part, length-take-le i words (omega (arith, part))))

  module _ (now : Known) (i : ℕ) (h : HasStoredWords before now frame i) (within : i < length frame) where
    -- the place of the next word
    pub next_place : (place : ℕ) → IsTableSize before.size → place ≡ (written_by before).at % before.size → place + i ≡ (written_by now).at % now.size
    next_place place size is =
        let position : (written_by now).at ≡ (written_by before).at + i =
        ap (λ (w : Walk). w.at) h.written ∙ with_words-at (written_by before) (take i frame) ∙ ap (λ (n : ℕ). (written_by before).at + n) (length-take-le i frame h.within) in
        let further = place_further (written_by before).at before.size i (omega (arith, size.least)) (omega (arith, may.inside, within)) in
        ap (λ (n : ℕ). n + i) is ∙ sym further ∙ ap (λ (n : ℕ). n % before.size) (sym position) ∙ ap (λ (v : Known). (written_by now).at % v.size) (sym h.same)

    -- it may come next
    next_may : FitsWithin now.size (now.writer.seen + now.size) (written_by now) (get_or frame i 0)
    next_may =
        let begins = frame_begins before.size (written_by before).at frame head_of may.inside in
        let first : take i frame ≡ [] → i ≡ 0 = λ none. omega (arith, ap (λ (ws : List ℕ). length ws) none, length-take-le i frame h.within) in
        let fits = next_fits before.size (before.writer.seen + before.size) (written_by before) (take i frame) (get_or frame i 0) may.whole
        (λ none. subst (λ (k : ℕ). Begins before.size (written_by before).at (get_or frame k 0) × ((written_by before).at + get_or frame k 0 % 65536 ≤ before.writer.seen + before.size)) (sym (first none))
        (begins, omega (arith, head_of.tells, may.room)))
        (frame_goes_on frame i head_of within)
        in
        subst (λ (v : Known). FitsWithin v.size (v.writer.seen + v.size) (written_by now) (get_or frame i 0)) (sym h.same)
        (subst (λ (w : Walk). FitsWithin before.size (before.writer.seen + before.size) w (get_or frame i 0)) (sym h.written) fits)

    pub next_open : before.writer.closed ≡ false → writer_barred now (put_step now (get_or frame i 0)) ≡ None
    next_open unclosed = may_put now (get_or frame i 0) (ap (λ (v : Known). v.writer.closed) h.same ∙ unclosed) next_may

    written_next : written_by (having_put now (get_or frame i 0)) ≡ with_words (written_by before) (take (suc i) frame)
    written_next =
        walk-push now.size now.writer.stream (get_or frame i 0)
        ∙ ap (λ (w : Walk). onward now.size w (get_or frame i 0)) h.written
        ∙ next_words now.size (written_by before) (take i frame) (get_or frame i 0) may.whole (frame_goes_on frame i head_of within)
        ∙ ap (with_words (written_by before)) (sym (take-suc frame i 0 within))

    pub next_lawful : Lawful (plan_in now) (written_by (having_put now (get_or frame i 0))).frames
    next_lawful =
        subst (λ (v : Known). Lawful (plan_in v) (written_by (having_put now (get_or frame i 0))).frames) (sym h.same)
        (subst (λ (w : Walk). Lawful (plan_in before) w.frames) (sym written_next) (lawful_words i within))

    -- and then one word more is stored
    pub next_stored : (after : Known) → after ≡ having_put now (get_or frame i 0) → HasStoredWords before after frame (i + 1)
    next_stored after is =
        let one : i + 1 ≡ suc i = omega arith in
        let word : ℕ = get_or frame i 0 in
        let steps : after.writer.steps ≡ counted now.writer.steps = ap (λ (v : Known). v.writer.steps) is in
        let stream : (before.writer.stream ++ take i frame) ++ word ∷ [] ≡ before.writer.stream ++ take (suc i) frame =
        append_assoc before.writer.stream (take i frame) (word ∷ []) ∙ ap (λ (ws : List ℕ). before.writer.stream ++ ws) (sym (take-suc frame i 0 within)) in
        subst (HasStoredWords before after frame) (sym one) (record {
          within = within;
          same = is ∙ ap (λ (v : Known). having_put v word) h.same
              ∙ (λ t. record before { writer = record before.writer { stream = stream t; steps = sym steps t } });
          written = ap written_by is ∙ written_next;
          steps = subst (CountsSteps (suc i) before.writer.steps) (sym steps)
              (subst (λ (n : ℕ). CountsSteps n before.writer.steps (counted now.writer.steps)) one (steps_then i 1 _ _ _ h.steps (one_step now.writer.steps)));
        })
