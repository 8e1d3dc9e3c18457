-- Reaches of walks with a word more.
use Rattle.std.proofs.Common.{◌≡◌, ◌≢◌, ℕ, ◌+◌, ◌-◌, ◌%◌, ◌<◌, true, List, [], ◌∷◌, ◌++◌, length, refl, sym, ap, length-append, eqb-true, true≢false, ⊎_elim, arith}
use Rattle.std.proofs.lemmas.Bool.{eqb-false}
use Rattle.ring_machine.specs.declared.reach.Reach.{Reach}
use Rattle.ring_machine.specs.Streams.{Walk, onward, Begins, Wraps, MayCome}
use Rattle.ring_machine.specs.Steps.{is_inside}
use Rattle.ring_machine.specs.Reaches.{IsReach}
use Rattle.ring_machine.proofs.lemmas.Walks.{onward_cases}

abbrev pub reach : ℕ → ℕ → ℕ → Reach
reach at left frames = record { at = at; left = left; frames = frames }

abbrev at_part : ℕ → List (List ℕ) → List ℕ → Walk
at_part at frames part = record { at = at; frames = frames; part = part }

-- the frame isn't whole yet
reach_part' : (size at : ℕ) (frames : List (List ℕ)) (part : List ℕ) (word : ℕ) (t : Reach) → IsReach (at_part at frames part) t → 1 < t.left
    → IsReach (onward size (at_part at frames part) word) (reach (t.at + 1) (t.left - 1) t.frames)
reach_part' size at frames [] word t h more = absurd omega (arith, h.left, more)
reach_part' size at frames (head ∷ words) word t h more =
    let left = h.left in
    let long = length-append words (word ∷ []) in
    onward_cases (λ v. IsReach v (reach (t.at + 1) (t.left - 1) t.frames)) size (at_part at frames (head ∷ words)) word
    (λ mark. absurd (true≢false (sym mark)))
    (λ _ whole. absurd (omega (arith, left, more, long, eqb-true (head % 65536) (length (head ∷ (words ++ word ∷ []))) whole)))
    (λ _ _. record {
      at = omega (arith, h.at);
      frames = h.frames;
      left = omega (arith, left, more, long);
      begun = λ _. omega (arith, more);
      few = omega (arith, h.few);
    })

pub reach_part : (size : ℕ) (w : Walk) (word : ℕ) (t : Reach) → IsReach w t → 1 < t.left → IsReach (onward size w word) (reach (t.at + 1) (t.left - 1) t.frames)
reach_part size w word t h more = reach_part' size w.at w.frames w.part word t h more

-- the word makes the frame whole
reach_whole' : (size at : ℕ) (frames : List (List ℕ)) (part : List ℕ) (word : ℕ) (t : Reach) → IsReach (at_part at frames part) t → t.left ≡ 1
    → IsReach (onward size (at_part at frames part) word) (reach (t.at + 1) 0 (t.frames + 1))
reach_whole' size at frames [] word t h one = absurd omega (arith, h.left, one)
reach_whole' size at frames (head ∷ words) word t h one =
    let left = h.left in
    let long = length-append words (word ∷ []) in
    onward_cases (λ v. IsReach v (reach (t.at + 1) 0 (t.frames + 1))) size (at_part at frames (head ∷ words)) word
    (λ mark. absurd (true≢false (sym mark)))
    (λ _ whole. record {
      at = omega (arith, h.at);
      frames = omega (arith, h.frames, length-append frames ((head ∷ (words ++ word ∷ [])) ∷ []));
      left = refl;
      begun = λ some. absurd (some refl);
      few = omega (arith, h.few);
    })
    (λ _ part. absurd (omega (arith, left, one, long, eqb-false (head % 65536) (length (head ∷ (words ++ word ∷ []))) part)))

pub reach_whole : (size : ℕ) (w : Walk) (word : ℕ) (t : Reach) → IsReach w t → t.left ≡ 1 → IsReach (onward size w word) (reach (t.at + 1) 0 (t.frames + 1))
reach_whole size w word t h one = reach_whole' size w.at w.frames w.part word t h one

-- the word is a wrap mark
reach_mark' : (size at : ℕ) (frames : List (List ℕ)) (part : List ℕ) (word : ℕ) (t : Reach) → IsReach (at_part at frames part) t → t.left ≡ 0 → word ≡ 0
    → IsReach (onward size (at_part at frames part) word) (reach (t.at + (size - t.at % size)) t.left t.frames)
reach_mark' size at frames [] word t h none zero =
    let same : t.at ≡ at = h.at in
    onward_cases (λ v. IsReach v (reach (t.at + (size - t.at % size)) t.left t.frames)) size (at_part at frames []) word
    (λ _. record { at = ap (λ (n : ℕ). n + (size - n % size)) same; frames = h.frames; left = h.left; begun = λ some. absurd (some refl); few = omega (arith, h.few) })
    (λ no _. absurd (eqb-false word 0 no zero))
    (λ no _. absurd (eqb-false word 0 no zero))
reach_mark' size at frames (head ∷ words) word t h none zero = absurd (omega (arith, none, h.begun (λ e. absurd cc)))

pub reach_mark : (size : ℕ) (w : Walk) (word : ℕ) (t : Reach) → IsReach w t → t.left ≡ 0 → word ≡ 0 → IsReach (onward size w word) (reach (t.at + (size - t.at % size)) t.left t.frames)
reach_mark size w word t h none zero = reach_mark' size w.at w.frames w.part word t h none zero

-- a frame begins with the word
reach_begin' : (size at : ℕ) (frames : List (List ℕ)) (part : List ℕ) (word : ℕ) (t : Reach) → IsReach (at_part at frames part) t → MayCome size (at_part at frames part) word → t.left ≡ 0
    → word ≢ 0 → IsReach (onward size (at_part at frames part) word) (reach (t.at + 1) (word % 65536 - 1) t.frames)
reach_begin' size at frames [] word t h may none some =
    ⊎_elim
    (λ (m : Wraps size at word). absurd (some m.mark))
    (λ (b : Begins size at word).
    let least = b.least in
    onward_cases (λ v. IsReach v (reach (t.at + 1) (word % 65536 - 1) t.frames)) size (at_part at frames []) word
    (λ mark. absurd (some (eqb-true word 0 mark)))
    (λ _ whole. absurd (omega (arith, least, eqb-true (word % 65536) 1 whole)))
    (λ _ _. record { at = omega (arith, h.at); frames = h.frames; left = omega arith; begun = λ _. omega (arith, least); few = omega (arith, h.few) }))
    (may refl)
reach_begin' size at frames (head ∷ words) word t h may none some = absurd (omega (arith, none, h.begun (λ e. absurd cc)))

pub reach_begin : (size : ℕ) (w : Walk) (word : ℕ) (t : Reach) → IsReach w t → MayCome size w word → t.left ≡ 0 → word ≢ 0 → IsReach (onward size w word) (reach (t.at + 1) (word % 65536 - 1) t.frames)
reach_begin size w word t h may none some = reach_begin' size w.at w.frames w.part word t h may none some

-- where no word is left, no frame is begun
none_left' : (at : ℕ) (frames : List (List ℕ)) (part : List ℕ) (t : Reach) → IsReach (at_part at frames part) t → t.left ≡ 0 → part ≡ []
none_left' at frames [] t h none = refl
none_left' at frames (head ∷ words) t h none = absurd (omega (arith, none, h.begun (λ e. absurd cc)))

pub none_left : (w : Walk) (t : Reach) → IsReach w t → t.left ≡ 0 → w.part ≡ []
none_left w t h none = none_left' w.at w.frames w.part t h none

some_left' : (at : ℕ) (frames : List (List ℕ)) (part : List ℕ) (t : Reach) → IsReach (at_part at frames part) t → 0 < t.left → is_inside part ≡ true
some_left' at frames [] t h some = absurd (omega (arith, some, h.left))
some_left' at frames (head ∷ words) t h some = refl

pub some_left : (w : Walk) (t : Reach) → IsReach w t → 0 < t.left → is_inside w.part ≡ true
some_left w t h some = some_left' w.at w.frames w.part t h some
