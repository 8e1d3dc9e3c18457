-- The frame that the roamer reads next, or the wrap mark that stands before it.
use Rattle.std.proofs.Common.{◌≡◌, ◌≢◌, ℕ, ◌+◌, ◌-◌, ◌%◌, ◌<◌, ◌≤◌, ◌^◌, List, [], ◌∷◌, ◌++◌, length, refl, sym, ap, ◌∙◌, subst, ⊎_elim, length-append, arith}
use Rattle.std.specs.Prelude.{◌⊎◌}
use Rattle.ring_machine.specs.Streams.{Walk, start, walk_from, next_lap, is_wrap_mark, skipped, onward, Begins, Wraps, IsBegun}
use Rattle.ring_machine.proofs.lemmas.Walks.{onward_cases, onward-skipped, walk-push}
use Rattle.word_ring.specs.declared.known.Known.{Known}
use Rattle.word_ring.specs.declared.word_out.WordOut.TheInside.{Inside}
use Rattle.word_ring.specs.Frames.{with_part}
use Rattle.word_ring.specs.Plays.{read_by, having_read}
use Rattle.word_ring.specs.RoamerInside.{roamer_knows, IsWordRoamer}
use Rattle.word_ring.proofs.FrameWords.{next_words, parted_words}

-- a walk has no more frames than positions
onward_few : (size : ℕ) (w : Walk) (word : ℕ) → length w.frames ≤ w.at → length (onward size w word).frames ≤ (onward size w word).at
onward_few size w word few =
    onward_cases (λ v. length v.frames ≤ v.at) size w word (λ _. omega (arith, few))
    (λ _ _. omega (arith, few, length-append w.frames ((w.part ++ word ∷ []) ∷ []))) (λ _ _. omega (arith, few))

walk_from-few : (size : ℕ) (w : Walk) (words : List ℕ) → length w.frames ≤ w.at → length (walk_from size w words).frames ≤ (walk_from size w words).at
walk_from-few size w [] few = few
walk_from-few size w (word ∷ words) few = walk_from-few size (onward size w word) words (onward_few size w word few)

-- what a roamer reads, of whom nothing is begun and for whom a word is left
module _ (s : Inside) (h : IsWordRoamer s) (word : ℕ)
    (fits : (read_by (roamer_knows s)).part ≡ []
    → (Wraps (roamer_knows s).size (read_by (roamer_knows s)).at word × (next_lap (roamer_knows s).size (read_by (roamer_knows s)).at ≤ (roamer_knows s).roamer.loaded))
    ⊎ (Begins (roamer_knows s).size (read_by (roamer_knows s)).at word × ((read_by (roamer_knows s)).at + word % 65536 ≤ (roamer_knows s).roamer.loaded))) where
  abbrev v : Known
  v = roamer_knows s

  -- the frames are counted
  pub count_fits : s.frames + 1 < 2 ^ 64
  count_fits = omega (arith, h.range, h.within, h.frames, h.at, walk_from-few v.size start v.roamer.stream (omega arith))

  -- ---- a wrap mark

  module _ (zero : word ≡ 0) where
    mark : Wraps v.size (read_by v).at word × (next_lap v.size (read_by v).at ≤ v.roamer.loaded)
    mark = ⊎_elim (λ m. m) (λ b. let least = b.0.least in absurd (omega (arith, zero, least))) (fits h.whole)

    pub mark_read : read_by (having_read v word) ≡ skipped v.size (read_by v)
    mark_read = walk-push v.size v.roamer.stream word ∙ onward-skipped v.size (read_by v) word ((λ i. is_wrap_mark (h.whole i) (zero i)))

    pub lap_at : (skipped v.size (read_by v)).at ≡ s.at + (s.size - s.place)
    lap_at = (λ i. h.at i + (h.told i - h.at i % h.told i)) ∙ ap (λ (n : ℕ). s.at + (s.size - n)) (sym h.place)

    pub lap_within : s.at + (s.size - s.place) ≤ s.loaded
    lap_within = let inside = mark.1 in omega (arith, lap_at, inside, h.loaded)

    pub mark_place : 1 ≤ s.at % s.size
    mark_place = let inside = mark.0.inside in let same : (read_by v).at % v.size ≡ s.at % s.size = λ i. h.at i % h.told i in omega (arith, inside, same)

  -- ---- a frame

  module _ (some : word ≢ 0) where
    pub begins : Begins v.size (read_by v).at word × ((read_by v).at + word % 65536 ≤ v.roamer.loaded)
    begins = ⊎_elim (λ m. absurd (some m.0.mark)) (λ b. b) (fits h.whole)

    least : 2 ≤ word % 65536
    least = begins.0.least

    first_read : read_by (having_read v word) ≡ with_part (read_by v) (word ∷ [])
    first_read =
        walk-push v.size v.roamer.stream word
        ∙ next_words v.size (read_by v) [] word h.whole (record { first = λ _. least; later = λ more. absurd (more refl) })
        ∙ parted_words (read_by v) word [] (omega (arith, least))

    module _ (now : Known) (is : now ≡ having_read v word) where
      read_is : read_by now ≡ with_part (read_by v) (word ∷ [])
      read_is = ap read_by is ∙ first_read

      pub head_read : (read_by now).part ≡ word ∷ []
      head_read = ap (λ (w : Walk). w.part) read_is

      pub now_at : (read_by now).at ≡ s.at + 1
      now_at = ap (λ (w : Walk). w.at) read_is ∙ ap (λ (n : ℕ). n + 1) h.at

      pub now_frames : (read_by now).frames ≡ (read_by v).frames
      now_frames = ap (λ (w : Walk). w.frames) read_is

      pub begun : IsBegun now.size now.roamer.loaded (read_by now)
      begun =
          let inside = begins.0.inside in
          let room = begins.1 in
          subst (λ (k : Known). IsBegun k.size k.roamer.loaded (read_by now)) (sym is)
          (subst (IsBegun v.size v.roamer.loaded) (sym read_is) (record { begin = (read_by v).at; at_is = refl; short = omega (arith, least); inside = inside; room = room }))

      pub place : s.place ≡ ((read_by now).at - 1) % now.size
      place =
          let back : s.at ≡ (read_by now).at - 1 = omega (arith, now_at) in
          let long : s.size ≡ now.size = sym (ap (λ (k : Known). k.size) is ∙ h.told) in
          h.place ∙ (λ i. back i % long i)
