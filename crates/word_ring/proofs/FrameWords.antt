-- The words of a frame, one behind the other.
use Rattle.std.proofs.Common.{◌≡◌, ◌≢◌, ℕ, zero, suc, ◌+◌, ◌-◌, ◌*◌, ◌%◌, ◌/◌, ◌<◌, ◌≤◌, false, true≢false, List, [], ◌∷◌, ◌++◌, length, get_or, take, refl, sym, ap, ◌∙◌, subst, inr, length-append, eqb-true, eq-eqb, ne_eqb, arith}
use Rattle.std.proofs.lemmas.Bool.{cond-true, cond-false}
use Rattle.std.proofs.Math.Nat.{mod-lt, div-add-mod, mul-add-mod_self_left, mod-eq_of_lt}
use Rattle.std.proofs.lemmas.List.{length-take-le}
use Rattle.std.proofs.lemmas.List.Elements.{All-contains, Contains-push}
use Rattle.arg_records.specs.Frames.{FrameLen, IsFrame}
use Rattle.arg_records.proofs.lemmas.Lengths.{length-Frame}
use Rattle.ring_core.specs.Plans.{Plan, Lawful}
use Rattle.ring_core.proofs.lemmas.Frames.{Lawful-frames}
use Rattle.arg_records.specs.declared.frame.TheConstants.{MAX_FRAME_WORDS}
use Rattle.log_dictionary.specs.declared.dictionary.TheConstants.{MAX_MESSAGES}
use Rattle.ring_machine.specs.Streams.{Walk, frame_len, is_whole_frame, onward, Begins, FitsWithin}
use Rattle.ring_machine.proofs.lemmas.Walks.{onward_cases}
use Rattle.word_ring.specs.Frames.{with_frame, with_part, with_words}

-- ---- places

-- so many places on, before the ring's end
pub place_further : (at size i : ℕ) → 1 ≤ size → at % size + i < size → (at + i) % size ≡ at % size + i
place_further at size i some inside =
    let whole : at + i ≡ size * (at / size) + (at % size + i) = omega (arith, div-add-mod at size) in
    ap (λ (n : ℕ). n % size) whole ∙ mul-add-mod_self_left size (at / size) (at % size + i) ∙ mod-eq_of_lt inside

-- a ring's beginning
pub lap_begins : (at size : ℕ) → 1 ≤ size → (at + (size - at % size)) % size ≡ 0
lap_begins at size some =
    let whole : at + (size - at % size) ≡ size * (at / size + 1) + 0 = omega (arith, div-add-mod at size, mod-lt at {m = size} (omega (arith, some))) in
    ap (λ (n : ℕ). n % size) whole ∙ mul-add-mod_self_left size (at / size + 1) 0 ∙ mod-eq_of_lt (omega (arith, some))

-- ---- words of a frame

-- the words are none, and a frame may begin with the next one, or they are the first of a frame that isn't whole
pub record FrameGoesOn (words : List ℕ) (word : ℕ) : Type 0 where
  pub first : words ≡ [] → 2 ≤ word % 65536
  pub later : words ≢ [] → length words < frame_len words

some_words : (head : ℕ) (words : List ℕ) → (head ∷ words) ≢ []
some_words head words e = absurd cc

not_whole : (head : ℕ) (words : List ℕ) → length (head ∷ words) < head % 65536 → is_whole_frame (head ∷ words) ≡ false
not_whole head words short = ne_eqb (head % 65536) (length (head ∷ words)) (λ e. omega (arith, e, short))

pub parted_words : (w : Walk) (head : ℕ) (words : List ℕ) → length (head ∷ words) < head % 65536 → with_words w (head ∷ words) ≡ with_part w (head ∷ words)
parted_words w head words short =
    cond-false (is_whole_frame (head ∷ words)) (with_frame w (head ∷ words)) (with_part w (head ∷ words)) (not_whole head words short)

pub whole_words : (w : Walk) (head : ℕ) (words : List ℕ) → head % 65536 ≡ length (head ∷ words) → with_words w (head ∷ words) ≡ with_frame w (head ∷ words)
whole_words w head words all =
    cond-true (is_whole_frame (head ∷ words)) (with_frame w (head ∷ words)) (with_part w (head ∷ words)) (eq-eqb (head % 65536) (length (head ∷ words)) all)

next_at : (size at : ℕ) (frames : List (List ℕ)) (words : List ℕ) (word : ℕ) → FrameGoesOn words word
    → let w : Walk = record { at = at; frames = frames; part = [] } in onward size (with_words w words) word ≡ with_words w (words ++ word ∷ [])
next_at size at frames [] word goes =
    let w : Walk = record { at = at; frames = frames; part = [] } in
    let long = goes.first refl in
    onward_cases (λ v. v ≡ with_words w (word ∷ [])) size w word
    (λ mark. absurd (omega (arith, eqb-true word 0 mark, long)))
    (λ _ whole. absurd (omega (arith, eqb-true (word % 65536) 1 whole, long)))
    (λ _ part. sym (cond-false (is_whole_frame (word ∷ [])) (with_frame w (word ∷ [])) (with_part w (word ∷ [])) part))
next_at size at frames (head ∷ words) word goes =
    let w : Walk = record { at = at; frames = frames; part = [] } in
    let before : List ℕ = head ∷ words in
    let after : List ℕ = head ∷ (words ++ word ∷ []) in
    let long : at + length before + 1 ≡ at + length after = omega (arith, length-append words (word ∷ [])) in
    ap (λ (v : Walk). onward size v word) (parted_words w head words (goes.later (some_words head words)))
    ∙ onward_cases (λ v. v ≡ with_words w after) size (with_part w before) word
    (λ mark. absurd (true≢false (sym mark)))
    (λ _ whole. (λ i. record { at = long i; frames = frames ++ after ∷ []; part = [] }) ∙ sym (cond-true (is_whole_frame after) (with_frame w after) (with_part w after) whole))
    (λ _ part. (λ i. record { at = long i; frames = frames; part = after }) ∙ sym (cond-false (is_whole_frame after) (with_frame w after) (with_part w after) part))

between : (w : Walk) → w.part ≡ [] → w ≡ record { at = w.at; frames = w.frames; part = [] }
between w none = λ i. record { at = w.at; frames = w.frames; part = none i }

-- with one word more the walk has one word more
pub next_words : (size : ℕ) (w : Walk) (words : List ℕ) (word : ℕ) → w.part ≡ [] → FrameGoesOn words word → onward size (with_words w words) word ≡ with_words w (words ++ word ∷ [])
next_words size w words word none goes =
    subst (λ (v : Walk). onward size (with_words v words) word ≡ with_words v (words ++ word ∷ [])) (sym (between w none)) (next_at size w.at w.frames words word goes)

-- the next word of a frame may come
pub next_fits : (size limit : ℕ) (w : Walk) (words : List ℕ) (word : ℕ) → w.part ≡ [] → (words ≡ [] → Begins size w.at word × (w.at + word % 65536 ≤ limit)) → FrameGoesOn words word
    → FitsWithin size limit (with_words w words) word
next_fits size limit w [] word none begins goes = λ _. inr (begins refl)
next_fits size limit w (head ∷ words) word none begins goes =
    λ e. absurd (some_words head words (ap (λ (v : Walk). v.part) (sym (parted_words w head words (goes.later (some_words head words)))) ∙ e))

-- ---- frames

-- what the first word of a frame tells
pub record HasHead (frame : List ℕ) : Type 0 where
  pub tells : get_or frame 0 0 % 65536 ≡ length frame
  pub least : 2 ≤ length frame
  pub most : length frame ≤ MAX_FRAME_WORDS
  pub id : get_or frame 0 0 / 65536 < MAX_MESSAGES

IsFrame-head : (frame : List ℕ) → IsFrame frame → HasHead frame
IsFrame-head frame is =
    let long : length frame ≡ FrameLen is.2 = ap (λ (ws : List ℕ). length ws) is.4 ∙ length-Frame is.0 is.1 is.2 in
    let head : get_or frame 0 0 ≡ is.0 * 65536 + FrameLen is.2 = ap (λ (ws : List ℕ). get_or ws 0 0) is.4 in
    record {
      tells = omega (arith, long, head, is.3.within);
      least = omega (arith, long);
      most = omega (arith, long, is.3.within);
      id = omega (arith, head, is.3.id_in_range, is.3.within);
    }

-- the last of lawful frames has a head
pub lawful_head : (plan : Plan) (frames : List (List ℕ)) (frame : List ℕ) → Lawful plan (frames ++ frame ∷ []) → HasHead frame
lawful_head plan frames frame lawful =
    IsFrame-head frame
    (All-contains IsFrame (frames ++ frame ∷ []) frame (Lawful-frames plan (frames ++ frame ∷ []) lawful) (Contains-push frames frame))

-- the frame begins where it doesn't cross the ring's end
pub frame_begins : (size at : ℕ) (frame : List ℕ) → HasHead frame → at % size + length frame ≤ size → Begins size at (get_or frame 0 0)
frame_begins size at frame has inside = record {
  least = omega (arith, has.tells, has.least);
  most = omega (arith, has.tells, has.most);
  id = has.id;
  inside = omega (arith, has.tells, inside);
}

-- the first words of a frame go on to the next one
pub frame_goes_on : (frame : List ℕ) (i : ℕ) → HasHead frame → i < length frame → FrameGoesOn (take i frame) (get_or frame i 0)
frame_goes_on [] i has within = absurd (omega (arith, within))
frame_goes_on (head ∷ words) zero has within = record { first = λ _. omega (arith, has.tells, has.least); later = λ some. absurd (some refl) }
frame_goes_on (head ∷ words) (suc i) has within = record {
  first = λ e. absurd cc;
  later = λ _. omega (arith, has.tells, within, length-take-le i words (omega (arith, within)));
}

-- all words of a frame are the frame
pub all_words : (w : Walk) (frame : List ℕ) → HasHead frame → with_words w frame ≡ with_frame w frame
all_words w [] has = absurd (omega (arith, has.least))
all_words w (head ∷ words) has = whole_words w head words has.tells
