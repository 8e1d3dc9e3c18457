-- A frame that the roamer reads, word by word.
use Rattle.std.proofs.Common.{◌≡◌, ◌≢◌, ℕ, zero, suc, ◌+◌, ◌-◌, ◌%◌, ◌<◌, ◌≤◌, List, [], ◌∷◌, ◌++◌, length, get_or, set, take, refl, sym, ap, ◌∙◌, subst, length-take-le, length-set, take-suc-set, arith}
use Rattle.arg_records.specs.declared.frame.TheConstants.{MAX_FRAME_WORDS}
use Rattle.nl_io.specs.Count.{counted}
use Rattle.ring_core.specs.Plans.{Lawful}
use Rattle.ring_machine.specs.Streams.{Walk, frame_len, onward, IsBegun}
use Rattle.ring_machine.proofs.lemmas.Walks.{walk-push}
use Rattle.word_ring.specs.declared.known.Known.{Known}
use Rattle.word_ring.specs.Counts.{CountsSteps}
use Rattle.word_ring.specs.Ends.{IsTableSize}
use Rattle.word_ring.specs.Frames.{with_frame, with_words}
use Rattle.word_ring.specs.Plays.{read_by, having_read}
use Rattle.word_ring.specs.Rule.{plan_in}
use Rattle.word_ring.proofs.FrameWords.{FrameGoesOn, next_words, place_further, parted_words, whole_words}
use Rattle.word_ring.proofs.Counting.{no_step, one_step, steps_then}
use Rattle.word_ring.proofs.Storing.{with_words-at}

-- where the roamer had come to before the frame whose first word it has read
abbrev pub before_frame : Known → Walk
before_frame v = record { at = (read_by v).at - 1; frames = (read_by v).frames; part = [] }

-- what was known, with this stream read, in so many steps
abbrev pub having_gone_on : Known → List ℕ → ℕ → Known
having_gone_on v stream steps = record v { roamer = record v.roamer { stream = stream; steps = steps } }

-- the roamer had read the first word of a frame, and has read so many of its words now
pub record HasReadWords (before now : Known) (head : ℕ) (into : List ℕ) (i : ℕ) : Type 0 where
  pub some : 1 ≤ i
  pub long : length into ≡ MAX_FRAME_WORDS
  pub first : get_or into 0 0 ≡ head
  pub same : now ≡ having_gone_on before now.roamer.stream now.roamer.steps
  pub read : read_by now ≡ with_words (before_frame before) (take i into)
  pub lawful : 2 ≤ i → Lawful (plan_in before) (read_by now).frames
  pub steps : CountsSteps (i - 1) before.roamer.steps now.roamer.steps

-- the first of so many words is the head, behind which a frame goes on
words_begin : (into : List ℕ) (head i : ℕ) → get_or into 0 0 ≡ head → 1 ≤ i → i ≤ length into → (words : List ℕ) × (take i into ≡ head ∷ words) × (length (head ∷ words) ≡ i)
words_begin [] head i first some within = absurd (omega (arith, some, within))
words_begin (word ∷ into) head zero first some within = absurd (omega (arith, some))
words_begin (word ∷ into) head (suc i) first some within = (take i into, ap (λ (n : ℕ). n ∷ take i into) first, ap suc (length-take-le i into (omega (arith, within))))

goes_on : (words : List ℕ) (head : ℕ) (more : List ℕ) (word : ℕ) → words ≡ head ∷ more → length words < head % 65536 → FrameGoesOn words word
goes_on words head more word is short = record {
  first = λ none. absurd (some_there (sym is ∙ none));
  later = λ _. omega (arith, short, ap frame_len is);
}
  where
    some_there : head ∷ more ≡ [] → ⊥
    some_there e = cc e

module _ (before : Known) (head : ℕ) (begun : IsBegun before.size before.roamer.loaded (read_by before)) (one : (read_by before).part ≡ head ∷ []) where
  position : (read_by before).at ≡ begun.begin + 1
  position = omega (arith, begun.at_is, ap (λ (ws : List ℕ). length ws) one)

  long : 1 < head % 65536
  long = omega (arith, begun.short, ap (λ (ws : List ℕ). length ws) one, ap frame_len one)

  -- the first word is read
  pub head_read : (into : List ℕ) → length into ≡ MAX_FRAME_WORDS → HasReadWords before before head (set into 0 head) 1
  head_read [] long_all = absurd (omega (arith, long_all))
  head_read (word ∷ into) long_all = record {
    some = omega arith;
    long = long_all;
    first = refl;
    same = refl;
    read = (λ i. record { at = position_again i; frames = (read_by before).frames; part = one i }) ∙ sym (parted_words (before_frame before) head [] long);
    lawful = λ two. absurd (omega (arith, two));
    steps = no_step before.roamer.steps;
  }
    where
      position_again : (read_by before).at ≡ (read_by before).at - 1 + 1
      position_again = omega (arith, position)

  module _ (now : Known) (into : List ℕ) (i : ℕ) (h : HasReadWords before now head into i) (few : i < head % 65536) (most : head % 65536 ≤ MAX_FRAME_WORDS) where
    room : head % 65536 ≤ length into
    room = omega (arith, h.long, most)

    words : (words : List ℕ) × (take i into ≡ head ∷ words) × (length (head ∷ words) ≡ i)
    words = words_begin into head i h.first h.some (omega (arith, few, room))

    taken_long : length (take i into) ≡ i
    taken_long = length-take-le i into (omega (arith, few, room))

    now_at : (read_by now).at ≡ begun.begin + i
    now_at = ap (λ (w : Walk). w.at) h.read ∙ with_words-at (before_frame before) (take i into) ∙ omega (arith, position, taken_long)

    -- the place of the next word
    pub next_place : (place : ℕ) → IsTableSize before.size → place ≡ ((read_by before).at - 1) % before.size → place + i ≡ (read_by now).at % now.size
    next_place place size is =
        let start : (read_by before).at - 1 ≡ begun.begin = omega (arith, position) in
        let inside = begun.inside in
        let further = place_further begun.begin before.size i (omega (arith, size.least)) (omega (arith, inside, few, ap frame_len one)) in
        ap (λ (n : ℕ). n + i) (is ∙ ap (λ (n : ℕ). n % before.size) start) ∙ sym further ∙ ap (λ (n : ℕ). n % before.size) (sym now_at)
        ∙ ap (λ (v : Known). (read_by now).at % v.size) (sym h.same)

    -- it is loaded
    pub next_left : now.roamer.loaded ≢ (read_by now).at
    next_left e = omega (arith, e, ap (λ (v : Known). v.roamer.loaded) h.same, now_at, begun.room, few, ap frame_len one)

    -- and then one word more is read
    pub next_read : (after : Known) (word : ℕ) → after ≡ having_read now word → Lawful (plan_in now) (read_by after).frames → HasReadWords before after head (set into i word) (i + 1)
    next_read after word is lawful =
        let steps : after.roamer.steps ≡ counted now.roamer.steps = ap (λ (v : Known). v.roamer.steps) is in
        let stream : after.roamer.stream ≡ now.roamer.stream ++ word ∷ [] = ap (λ (v : Known). v.roamer.stream) is in
        let inside : i < length into = omega (arith, few, room) in
        let next : i + 1 ≡ suc i = omega arith in
        let one_more : i - 1 + 1 ≡ i + 1 - 1 = omega (arith, h.some) in
        record {
          some = omega arith;
          long = length-set into i word ∙ h.long;
          first = kept into i word h.some ∙ h.first;
          same = is ∙ ap (λ (v : Known). having_read v word) h.same ∙ (λ t. having_gone_on before (sym stream t) (sym steps t));
          read = ap read_by is ∙ walk-push now.size now.roamer.stream word ∙ ap (λ (w : Walk). onward now.size w word) h.read
              ∙ next_words now.size (before_frame before) (take i into) word refl (goes_on (take i into) head words.0 word words.1 (omega (arith, taken_long, few)))
              ∙ ap (with_words (before_frame before)) (sym (ap (λ (n : ℕ). take n (set into i word)) next ∙ take-suc-set into i word inside));
          lawful = λ _. subst (λ (v : Known). Lawful (plan_in v) (read_by after).frames) h.same lawful;
          steps = subst (CountsSteps (i + 1 - 1) before.roamer.steps) (sym steps)
              (subst (λ (n : ℕ). CountsSteps n before.roamer.steps (counted now.roamer.steps)) one_more (steps_then (i - 1) 1 _ _ _ h.steps (one_step now.roamer.steps)));
        }
      where
        kept : (into : List ℕ) (i word : ℕ) → 1 ≤ i → get_or (set into i word) 0 0 ≡ get_or into 0 0
        kept [] i word some = refl
        kept (first ∷ into) zero word some = absurd (omega (arith, some))
        kept (first ∷ into) (suc i) word some = refl

  -- all words are read
  pub all_read : (now : Known) (into : List ℕ) (i : ℕ) → HasReadWords before now head into i → i ≡ head % 65536 → i ≤ MAX_FRAME_WORDS
      → read_by now ≡ record { at = (read_by before).at + (i - 1); frames = (read_by before).frames ++ take i into ∷ []; part = [] }
  all_read now into i h all most =
      let room : i ≤ length into = omega (arith, h.long, most) in
      let words = words_begin into head i h.first h.some room in
      let further : (read_by before).at - 1 + length (take i into) ≡ (read_by before).at + (i - 1) = omega (arith, position, length-take-le i into room, h.some) in
      h.read ∙ ap (with_words (before_frame before)) words.1 ∙ whole_words (before_frame before) head words.0 (sym all ∙ sym words.2)
      ∙ ap (with_frame (before_frame before)) (sym words.1) ∙ (λ t. record { at = further t; frames = (read_by before).frames ++ take i into ∷ []; part = [] })
