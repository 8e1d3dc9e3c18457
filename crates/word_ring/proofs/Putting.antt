-- A frame that the writer stores next.
use Rattle.std.proofs.Common.{◌≡◌, ℕ, ◌+◌, ◌-◌, ◌%◌, ◌<◌, List, [], ◌∷◌, ◌++◌, length, refl, sym, ap, ◌∙◌, subst, inl, arith}
use Rattle.std.proofs.Math.Nat.{mod-lt}
use Rattle.ring_core.specs.Plans.{Lawful}
use Rattle.ring_core.specs.Positions.{Need}
use Rattle.ring_core.proofs.lemmas.Frames.{Lawful-front}
use Rattle.ring_core.proofs.lemmas.Needs.{Need-beyond}
use Rattle.ring_machine.specs.Streams.{Walk, is_wrap_mark, skipped, FitsWithin}
use Rattle.ring_machine.proofs.lemmas.Walks.{onward-skipped, walk-push}
use Rattle.word_ring.specs.declared.known.Known.{Known}
use Rattle.word_ring.specs.Ends.{IsTableSize}
use Rattle.word_ring.specs.Frames.{with_frame, with_next, MayStore, MayPut}
use Rattle.word_ring.specs.Plays.{written_by, having_put}
use Rattle.word_ring.specs.Rule.{plan_in}
use Rattle.word_ring.proofs.FrameWords.{HasHead, lawful_head, lap_begins}

module _ (v : Known) (frame : List ℕ) (size : IsTableSize v.size) (may : MayPut v frame) where
  abbrev at : ℕ
  at = (written_by v).at

  has : HasHead frame
  has = lawful_head (plan_in v) (written_by v).frames frame may.lawful

  -- ---- a frame that doesn't cross the ring's end

  -- ---- a frame behind a wrap mark

  module _ (beyond : v.size < at % v.size + length frame) where
    place_in_ring : at % v.size < v.size
    place_in_ring = mod-lt at {m = v.size} (omega (arith, size.least))

    pub mark_fits : FitsWithin v.size (v.writer.seen + v.size) (written_by v) 0
    mark_fits none = inl (
      record { mark = refl; inside = omega (arith, beyond, has.most, size.least) },
      omega (arith, may.room, Need-beyond at (length frame) v.size beyond),
    )

    pub mark_put : written_by (having_put v 0) ≡ skipped v.size (written_by v)
    mark_put = walk-push v.size v.writer.stream 0 ∙ onward-skipped v.size (written_by v) 0 (ap (λ (part : List ℕ). is_wrap_mark part 0) may.whole)

    pub mark_lawful : Lawful (plan_in v) (written_by (having_put v 0)).frames
    mark_lawful = subst (λ (w : Walk). Lawful (plan_in v) w.frames) (sym mark_put) (Lawful-front (plan_in v) (written_by v).frames (frame ∷ []) may.lawful)

    module _ (now : Known) (is : now ≡ having_put v 0) where
      now_at : (written_by now).at ≡ at + (v.size - at % v.size)
      now_at = ap (λ (k : Known). (written_by k).at) is ∙ ap (λ (w : Walk). w.at) mark_put

      long : now.size ≡ v.size
      long = ap (λ (k : Known). k.size) is

      pub place_begins : 0 ≡ (written_by now).at % now.size
      place_begins = sym (lap_begins at v.size (omega (arith, size.least))) ∙ (λ i. sym now_at i % sym long i)

      pub may_store_behind : MayStore now frame
      may_store_behind = record {
        whole = ap (λ (k : Known). (written_by k).part) is ∙ ap (λ (w : Walk). w.part) mark_put ∙ may.whole;
        inside = omega (arith, place_begins, has.most, size.least, long);
        room = omega (arith, now_at, long, ap (λ (k : Known). k.writer.seen) is, may.room, Need-beyond at (length frame) v.size beyond, place_in_ring);
        lawful = subst (λ (k : Known). Lawful (plan_in k) ((written_by k).frames ++ frame ∷ [])) (sym is)
            (subst (λ (w : Walk). Lawful (plan_in v) (w.frames ++ frame ∷ [])) (sym mark_put) may.lawful);
      }

      pub stored_behind : with_frame (written_by now) frame ≡ with_next v.size (written_by v) frame
      stored_behind =
          let walk_is : written_by now ≡ skipped v.size (written_by v) = ap written_by is ∙ mark_put in
          let further : at + (v.size - at % v.size) + length frame ≡ at + Need at (length frame) v.size = omega (arith, Need-beyond at (length frame) v.size beyond, place_in_ring) in
          ap (λ (w : Walk). with_frame w frame) walk_is ∙ (λ i. record { at = further i; frames = (written_by v).frames ++ frame ∷ []; part = [] })
