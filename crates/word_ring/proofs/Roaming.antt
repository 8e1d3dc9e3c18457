-- What a roamer's end is once it has gone on to the next frame, or over a wrap mark.
use Rattle.std.proofs.Common.{◌≡◌, ◌≢◌, ℕ, ◌+◌, ◌-◌, ◌%◌, ◌≤◌, true, false, true≢false, List, [], ◌∷◌, ◌++◌, length, take, refl, sym, ap, ◌∙◌, subst, length-append, length-take-le, arith}
use Rattle.std.specs.Prelude.{◌⊎◌, None}
use Rattle.arg_records.specs.declared.frame.TheConstants.{MAX_FRAME_WORDS}
use Rattle.nl_io.specs.Count.{counted}
use Rattle.ring_core.specs.Plans.{Plan, Lawful}
use Rattle.ring_machine.specs.declared.steps.StepKind.TheVariants as steps
use Rattle.ring_machine.specs.Streams.{Walk, next_lap, Begins, Wraps}
use Rattle.ring_machine.proofs.lemmas.Bars.{may_release}
use Rattle.word_ring.specs.declared.known.Known.{Known}
use Rattle.word_ring.specs.declared.word_out.WordOut.TheInside.{Inside}
use Rattle.ring_core.specs.Counts.{RisesBy}
use Rattle.word_ring.specs.Counts.{CountsSteps}
use Rattle.word_ring.specs.Ends.{WordRoamerEnd, numbers_of}
use Rattle.word_ring.specs.Plays.{read_by, roamer_barred, having_read, having_released}
use Rattle.word_ring.specs.RoamerInside.{roamer_knows, roamer_end_of, IsWordRoamer}
use Rattle.word_ring.specs.Rule.{plan_in}
use Rattle.word_ring.specs.Seats.{RingSeat, view, IsSameSeat}
use Rattle.word_ring.specs.Taking.{SkipsMark, TakesLoaded}
use Rattle.word_ring.proofs.Counting.{one_step, steps_then}
use Rattle.word_ring.proofs.FrameWords.{lap_begins}
use Rattle.word_ring.proofs.SameSeats.{still_seat, same_then}
use Rattle.word_ring.proofs.NextFrames.{mark_read, lap_at, lap_within, mark_place, begins, now_at, now_frames}
use Rattle.word_ring.proofs.Reading.{having_gone_on}

-- one more is counted
one_more : (before now : ℕ) → now ≡ counted before → CountsSteps 1 before now
one_more before now is = subst (CountsSteps 1 before) (sym is) (one_step before)

module _ (s : Inside) (h : IsWordRoamer s) (word : ℕ)
    (fits : (read_by (roamer_knows s)).part ≡ []
    → (Wraps (roamer_knows s).size (read_by (roamer_knows s)).at word × (next_lap (roamer_knows s).size (read_by (roamer_knows s)).at ≤ (roamer_knows s).roamer.loaded))
    ⊎ (Begins (roamer_knows s).size (read_by (roamer_knows s)).at word × ((read_by (roamer_knows s)).at + word % 65536 ≤ (roamer_knows s).roamer.loaded)))
    (seat : RingSeat) (same : IsSameSeat s.seat seat) (knows : view seat ≡ having_read (roamer_knows s) word) (not_ended : s.ended ≡ false) where
  never_ended : s.ended ≡ true → ⊥
  never_ended e = true≢false (sym e ∙ not_ended)

  -- ---- a wrap mark

  module _ (zero : word ≡ 0) where
    abbrev behind_mark : Inside
    behind_mark = record s { seat = seat; at = s.at + (s.size - s.place); place = 0 }

    begins_lap : (s.at + (s.size - s.place)) % s.size ≡ 0
    begins_lap = ap (λ (n : ℕ). (s.at + (s.size - n)) % s.size) h.place ∙ lap_begins s.at s.size (omega (arith, h.size.least))

    walk_is : read_by (view seat) ≡ record { at = next_lap (roamer_knows s).size (read_by (roamer_knows s)).at; frames = (read_by (roamer_knows s)).frames; part = (read_by (roamer_knows s)).part }
    walk_is = ap read_by knows ∙ mark_read s h word fits zero

    pub marked : IsWordRoamer behind_mark
    marked = record {
      seat = still_seat s.size s.size _ s.seat seat h.seat same refl;
      size = h.size;
      told = ap (λ (v : Known). v.size) knows ∙ h.told;
      reads = ap (λ (v : Known). v.reads) knows ∙ h.reads;
      whole = ap (λ (w : Walk). w.part) walk_is ∙ h.whole;
      at = ap (λ (w : Walk). w.at) walk_is ∙ lap_at s h word fits zero;
      place = sym begins_lap;
      released = omega (arith, ap (λ (v : Known). v.roamer.released) knows, h.released);
      loaded = ap (λ (v : Known). v.roamer.loaded) knows ∙ h.loaded;
      learnt = ap (λ (v : Known). v.roamer.learnt) knows ∙ h.learnt;
      within = lap_within s h word fits zero;
      range = h.range;
      ended = λ e. absurd (never_ended e);
      loads = omega (arith, ap (λ (v : Known). v.roamer.loads) knows, h.loads);
      steps = (one_more _ _ (ap (λ (v : Known). v.roamer.steps) knows)).range h.steps;
      frames = h.frames ∙ sym (ap (λ (w : Walk). length w.frames) walk_is);
    }

    pub skips : (e : WordRoamerEnd) → roamer_end_of s ≡ e → SkipsMark e (roamer_end_of behind_mark)
    skips e is = subst (λ (old : WordRoamerEnd). SkipsMark old (roamer_end_of behind_mark)) is (record {
      same = λ i. record {
        pair = numbers_of (same.one i);
        plan = plan_in (knows i);
        words = s.size;
        got = (walk_is i).frames;
        at = s.at + (s.size - s.place);
        released = (knows i).roamer.released;
        loaded = s.loaded;
        learnt = s.learnt;
        ended = s.ended;
        loads = (knows i).roamer.loads;
        steps = (view seat).roamer.steps;
      };
      mark = mark_place s h word fits zero;
      beginning = begins_lap;
      steps = (one_more _ _ (ap (λ (v : Known). v.roamer.steps) knows)).rises h.steps;
    })

  -- ---- a frame, whose other words were read, and which was released

  module _ (some : word ≢ 0) (len : ℕ) (len_is : len ≡ word % 65536) where
    first : Begins (roamer_knows s).size (read_by (roamer_knows s)).at word × ((read_by (roamer_knows s)).at + word % 65536 ≤ (roamer_knows s).roamer.loaded)
    first = begins s h word fits some

    least : 2 ≤ len
    least = let two = first.0.least in omega (arith, len_is, two)

    pub len_within : len ≤ MAX_FRAME_WORDS
    len_within = let most = first.0.most in omega (arith, len_is, most)

    pub frame_at : (into : List ℕ) (frame_seat : RingSeat)
        → read_by (view frame_seat) ≡ record { at = (read_by (view seat)).at + (len - 1); frames = (read_by (view seat)).frames ++ take len into ∷ []; part = [] }
        → s.at + len ≡ (read_by (view frame_seat)).at
    frame_at into frame_seat read = omega (arith, ap (λ (w : Walk). w.at) read, now_at s h word fits some (view seat) knows, least)

    -- nothing of the frame is released
    pub unreleased : (into : List ℕ) (frame_seat : RingSeat) → view frame_seat ≡ having_gone_on (view seat) (view frame_seat).roamer.stream (view frame_seat).roamer.steps
        → read_by (view frame_seat) ≡ record { at = (read_by (view seat)).at + (len - 1); frames = (read_by (view seat)).frames ++ take len into ∷ []; part = [] }
        → roamer_barred (view frame_seat) steps.Release ≡ None
    unreleased into frame_seat others read =
        let v : Known = view frame_seat in
        let was : v.roamer.released ≡ (roamer_knows s).roamer.released = ap (λ (k : Known). k.roamer.released) others ∙ ap (λ (k : Known). k.roamer.released) knows in
        let new : v.roamer.released ≢ (read_by v).at = λ e. omega (arith, e, was, h.released, frame_at into frame_seat read, least) in
        may_release v.size v.roamer (ap (λ (w : Walk). w.part) read) new

    module _ (into : List ℕ) (frame_seat last_seat : RingSeat) (long : length into ≡ MAX_FRAME_WORDS)
        (frame_same : IsSameSeat seat frame_seat) (last_same : IsSameSeat frame_seat last_seat)
        (others : view frame_seat ≡ having_gone_on (view seat) (view frame_seat).roamer.stream (view frame_seat).roamer.steps)
        (read : read_by (view frame_seat) ≡ record { at = (read_by (view seat)).at + (len - 1); frames = (read_by (view seat)).frames ++ take len into ∷ []; part = [] })
        (released : view last_seat ≡ having_released (view frame_seat))
        (counts : CountsSteps (len - 1) (view seat).roamer.steps (view frame_seat).roamer.steps)
        (place : ℕ) (place_is : place ≡ (s.at + len) % s.size) where
      abbrev behind_frame : Inside
      behind_frame = record s { seat = last_seat; at = s.at + len; place = place; frames = s.frames + 1 }

      frames_are : (read_by (view last_seat)).frames ≡ (read_by (roamer_knows s)).frames ++ take len into ∷ []
      frames_are =
          ap (λ (v : Known). (read_by v).frames) released ∙ ap (λ (w : Walk). w.frames) read
          ∙ ap (λ (fs : List (List ℕ)). fs ++ take len into ∷ []) (now_frames s h word fits some (view seat) knows)

      all_steps : CountsSteps (len + 1) (roamer_knows s).roamer.steps (view last_seat).roamer.steps
      all_steps =
          let n : 1 + (len - 1) + 1 ≡ len + 1 = omega (arith, least) in
          subst (λ (k : ℕ). CountsSteps k (roamer_knows s).roamer.steps (view last_seat).roamer.steps) n
          (steps_then (1 + (len - 1)) 1 _ _ _ (steps_then 1 (len - 1) _ _ _ (one_more _ _ (ap (λ (v : Known). v.roamer.steps) knows)) counts)
          (one_more _ _ (ap (λ (v : Known). v.roamer.steps) released)))

      pub framed : IsWordRoamer behind_frame
      framed =
          let reach = first.1 in
          record {
            seat = still_seat s.size s.size _ s.seat last_seat h.seat (same_then _ _ _ same (same_then _ _ _ frame_same last_same)) refl;
            size = h.size;
            told = ap (λ (v : Known). v.size) released ∙ ap (λ (v : Known). v.size) others ∙ ap (λ (v : Known). v.size) knows ∙ h.told;
            reads = ap (λ (v : Known). v.reads) released ∙ ap (λ (v : Known). v.reads) others ∙ ap (λ (v : Known). v.reads) knows ∙ h.reads;
            whole = ap (λ (v : Known). (read_by v).part) released ∙ ap (λ (w : Walk). w.part) read;
            at = ap (λ (v : Known). (read_by v).at) released ∙ sym (frame_at into frame_seat read);
            place = place_is;
            released = omega (arith, ap (λ (v : Known). v.roamer.released) released, frame_at into frame_seat read);
            loaded = ap (λ (v : Known). v.roamer.loaded) released ∙ ap (λ (v : Known). v.roamer.loaded) others ∙ ap (λ (v : Known). v.roamer.loaded) knows ∙ h.loaded;
            learnt = ap (λ (v : Known). v.roamer.learnt) released ∙ ap (λ (v : Known). v.roamer.learnt) others ∙ ap (λ (v : Known). v.roamer.learnt) knows ∙ h.learnt;
            within = omega (arith, reach, len_is, h.at, h.loaded);
            range = h.range;
            ended = λ e. absurd (never_ended e);
            loads = omega (arith, ap (λ (v : Known). v.roamer.loads) released, ap (λ (v : Known). v.roamer.loads) others, ap (λ (v : Known). v.roamer.loads) knows, h.loads);
            steps = all_steps.range h.steps;
            frames = omega (arith, h.frames, ap (λ (fs : List (List ℕ)). length fs) frames_are, length-append (read_by (roamer_knows s)).frames (take len into ∷ []));
          }

      pub takes : (e : WordRoamerEnd) → roamer_end_of s ≡ e → Lawful (plan_in (view seat)) (read_by (view frame_seat)).frames → TakesLoaded e (take len into) (roamer_end_of behind_frame)
      takes e is lawful =
          let words : length (take len into) ≡ len = length-take-le len into (omega (arith, long, len_within)) in
          let plan_is : plan_in (view last_seat) ≡ plan_in (roamer_knows s) = ap plan_in released ∙ ap plan_in others ∙ ap plan_in knows in
          let released_is : (view last_seat).roamer.released ≡ s.at + length (take len into) =
          ap (λ (v : Known). v.roamer.released) released ∙ sym (frame_at into frame_seat read) ∙ ap (λ (n : ℕ). s.at + n) (sym words)
          in
          let loads_same : (view last_seat).roamer.loads ≡ (roamer_knows s).roamer.loads =
          ap (λ (v : Known). v.roamer.loads) released ∙ ap (λ (v : Known). v.roamer.loads) others ∙ ap (λ (v : Known). v.roamer.loads) knows
          in
          subst (λ (old : WordRoamerEnd). TakesLoaded old (take len into) (roamer_end_of behind_frame)) is (record {
            same = λ i. record {
              pair = numbers_of ((last_same.one ∙ frame_same.one ∙ same.one) i);
              plan = plan_is i;
              words = s.size;
              got = frames_are i;
              at = s.at + sym words i;
              released = released_is i;
              loaded = s.loaded;
              learnt = s.learnt;
              ended = s.ended;
              loads = loads_same i;
              steps = (view last_seat).roamer.steps;
            };
            lawful = subst (λ (x : Plan × List (List ℕ)). Lawful x.0 x.1) (λ i. (ap plan_in knows i, sym (ap (λ (v : Known). (read_by v).frames) released) i)) lawful;
            steps = subst (λ (n : ℕ). RisesBy (n + 1) (roamer_knows s).roamer.steps (view last_seat).roamer.steps) (sym words) (all_steps.rises h.steps);
          })
