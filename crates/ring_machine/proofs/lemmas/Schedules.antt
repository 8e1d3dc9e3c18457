-- What holds of rings after each event of any schedule.
use Rattle.std.proofs.Common.{◌≡◌, ◌≢◌, ℕ, zero, suc, ◌≤◌, true, List, [], ◌∷◌, ◌++◌, length, set, refl, sym, ap, ◌∙◌, subst, append-nil, append_assoc, eqb-true, inl, inr, arith}
use Rattle.std.specs.Prelude.{◌==◌, Option, None, Some, slice_get, All}
use Rattle.std.proofs.lemmas.Bool.{and_parts, cases_lt}
use Rattle.std.proofs.lemmas.List.Elements.{All-set, All-replicate, All-weaker}
use Rattle.std.proofs.lemmas.List.{length-set}
use Rattle.std.proofs.lemmas.Option.{slice_get_within, get_or_from_slice_get}
use Rattle.ring_core.specs.Plans.{Plan, Lawful, BeginsWith}
use Rattle.ring_core.proofs.lemmas.Frames.{Lawful-front}
use Rattle.ring_machine.specs.declared.steps.StepKind.{StepKind}
use Rattle.ring_machine.specs.declared.steps.StepKind.TheVariants as steps
use Rattle.ring_machine.specs.declared.steps.Event.{Event}
use Rattle.ring_machine.specs.Streams.{Walk, start, walk, walk_from, IsStream, FrameEndsAt, frames_up_to}
use Rattle.ring_machine.specs.RingStates.{RingState, new_ring, written, taken, sent, got, has_ended, RingOk, RingLawful}
use Rattle.ring_machine.specs.Steps.{barred, barred_in, stored, after_step, rings_after, IsEvent, Run}
use Rattle.ring_machine.specs.Rings.{new_rings}
use Rattle.ring_machine.proofs.lemmas.Walks.{walk_from-append, walk_from-frames, front_before, front_same, frames_up_to-front, AllMayCome-front}
use Rattle.ring_machine.proofs.lemmas.Bars.{store_open, skip_open, publish_open, close_open, read_open, release_open}
use Rattle.ring_machine.proofs.lemmas.StepLaws.{RingOk-new, RingOk-look, RingOk-stored, RingOk-publish, RingOk-close, RingOk-load, RingOk-read, RingOk-release}

-- each step that isn't barred keeps what holds of a ring
pub RingOk-after : (s : RingState) (step : StepKind) → RingOk s → barred s step ≡ None → RingOk (after_step s step)
RingOk-after s steps.Look h unbarred = RingOk-look s h
RingOk-after s (steps.Store word) h unbarred = let o = store_open s.size s.writer word unbarred in RingOk-stored s word h o.0 o.1
RingOk-after s steps.Skip h unbarred = let o = skip_open s.size s.writer unbarred in RingOk-stored s 0 h o.0 o.2
RingOk-after s steps.Publish h unbarred = let o = publish_open s.size s.writer unbarred in RingOk-publish s h o.0 o.1
RingOk-after s steps.Close h unbarred = let o = close_open s.size s.writer unbarred in RingOk-close s h o.0 o.1
RingOk-after s steps.Load h unbarred = RingOk-load s h
RingOk-after s steps.Read h unbarred = RingOk-read s h (read_open s.size s.roamer unbarred)
RingOk-after s steps.Release h unbarred = RingOk-release s h (release_open s.size s.roamer unbarred)

-- ---- what was sent and what was got

-- the frames of a stream up to one of its ends are those of the front that ends there
up_to_end : (size : ℕ) (words : List ℕ) (position : ℕ) (e : FrameEndsAt size words position) → 1 ≤ size → frames_up_to size position start words ≡ (walk size e.front).frames
up_to_end size words position e some = ap (frames_up_to size position start) e.words_are ∙ frames_up_to-front size position start e.front e.back some e.at_is

-- a word that is stored sends nothing
pub sent-stored : (s : RingState) (word : ℕ) → RingOk s → sent (stored s word) ≡ sent s
sent-stored s word h =
    let e = h.published_end in
    let further : FrameEndsAt s.size (s.writer.stream ++ word ∷ []) s.published = record {
      front = e.front;
      back = e.back ++ word ∷ [];
      words_are = ap (λ (ws : List ℕ). ws ++ word ∷ []) e.words_are ∙ append_assoc e.front e.back (word ∷ []);
      at_is = e.at_is;
      whole = e.whole;
    } in
    up_to_end s.size (s.writer.stream ++ word ∷ []) s.published further h.size ∙ sym (up_to_end s.size s.writer.stream s.published e h.size)

-- once the writer publishes, all whole frames are sent
pub sent-published : (s : RingState) → RingOk s → (written s).part ≡ [] → sent (after_step s steps.Publish) ≡ (written s).frames
sent-published s h whole =
    let e : FrameEndsAt s.size s.writer.stream (written s).at = record { front = s.writer.stream; back = []; words_are = sym (append-nil s.writer.stream); at_is = refl; whole = whole } in
    up_to_end s.size s.writer.stream (written s).at e h.size

-- where all that is published was read, all was got that was sent
got_all : (s : RingState) → RingOk s → (taken s).at ≡ s.published → got s ≡ sent s
got_all s h all =
    let e = h.published_end in
    let same : s.roamer.stream ≡ e.front =
    front_same s.size s.roamer.stream h.read_front.rest e.front e.back h.size (sym h.read_front.words_are ∙ e.words_are) (all ∙ sym e.at_is) in
    ap (λ (ws : List ℕ). (walk s.size ws).frames) same ∙ sym (up_to_end s.size s.writer.stream s.published e h.size)

-- what was got is the front of what was sent
pub got_front : (s : RingState) → RingOk s → BeginsWith (sent s) (got s)
got_front s h =
    let e = h.published_end in
    let o = h.order in
    elim (cases_lt (taken s).at s.published) [
      | inl before ↦
          let more = front_before s.size s.roamer.stream h.read_front.rest e.front e.back h.size (sym h.read_front.words_are ∙ e.words_are) (omega (arith, before, e.at_is)) in
          let others = walk_from-frames s.size (taken s) (more.0 ∷ more.1) in
          let front : walk s.size e.front ≡ walk_from s.size (taken s) (more.0 ∷ more.1) = ap (walk s.size) more.2 ∙ walk_from-append s.size start s.roamer.stream (more.0 ∷ more.1) in
          (others.0, up_to_end s.size s.writer.stream s.published e h.size ∙ ap (λ (w : Walk). w.frames) front ∙ others.1)
      | inr all ↦ ([], sym (got_all s h (omega (arith, all, o.read_loaded, o.loaded_published))) ∙ sym (append-nil (got s)))
    ]

-- a roamer that has ended got all that was sent
pub got_ended : (s : RingState) → RingOk s → has_ended s ≡ true → got s ≡ sent s
got_ended s h ended =
    let parts = and_parts s.roamer.learnt ((taken s).at == s.roamer.loaded) ended in
    got_all s h (eqb-true (taken s).at s.roamer.loaded parts.1 ∙ h.bits.learnt_loaded parts.0)

-- what was read is frames and skips too
pub read_stream : (s : RingState) → RingOk s → IsStream s.size s.roamer.stream
read_stream s h = AllMayCome-front s.size start s.roamer.stream h.read_front.rest (subst (IsStream s.size) h.read_front.words_are h.frames)

-- the frames that were read are lawful where those that were stored are
pub lawful_read : (plan : Plan) (s : RingState) → RingOk s → Lawful plan (written s).frames → RingLawful plan s
lawful_read plan s h lawful =
    let rest = h.read_front.rest in
    let more = walk_from-frames s.size (taken s) rest in
    let whole : (written s).frames ≡ (taken s).frames ++ more.0 = ap (λ (w : Walk). w.frames) (ap (walk s.size) h.read_front.words_are ∙ walk_from-append s.size start s.roamer.stream rest) ∙ more.1 in
    record { stored = lawful; read = Lawful-front plan (taken s).frames more.0 (subst (Lawful plan) whole lawful) }

-- ---- several rings

pub All-get : (P : RingState → Type 0) (rings : List RingState) (ring : ℕ) (s : RingState) → All P rings → slice_get rings ring ≡ Some s → P s
All-get P rings ring s all is = subst P (get_or_from_slice_get rings ring s s is) (all ring s (slice_get_within rings ring s is))

kept : (rings : List RingState) (ring : ℕ) (step : StepKind) (o : Option RingState) → slice_get rings ring ≡ o → All RingOk rings → barred_in o step ≡ None → All RingOk (rings_after rings ring o step)
kept rings ring step None is all unbarred = all
kept rings ring step (Some s) is all unbarred = All-set RingOk rings ring (after_step s step) (RingOk-after s step (All-get RingOk rings ring s all is) unbarred) all

pub event_keeps : (rings next : List RingState) (event : Event) → All RingOk rings → IsEvent rings event next → All RingOk next
event_keeps rings next event all h = subst (All RingOk) (sym h.next_is) (kept rings event.ring event.step (slice_get rings event.ring) refl all h.not_barred)

pub run_keeps : (rings last : List RingState) (events : List Event) → All RingOk rings → Run rings events last → All RingOk last
run_keeps rings last [] all run = subst (All RingOk) (sym run) all
run_keeps rings last (event ∷ events) all run = run_keeps run.0 last events (event_keeps rings run.0 event all run.1) run.2

pub schedule_ok : (count size : ℕ) (events : List Event) (last : List RingState) → 1 ≤ size → Run (new_rings count size) events last → All RingOk last
schedule_ok count size events last some run = run_keeps (new_rings count size) last events (All-replicate RingOk count (new_ring size) (RingOk-new size some)) run

pub schedule_front : (count size : ℕ) (events : List Event) (last : List RingState) → 1 ≤ size → Run (new_rings count size) events last → All (λ s. BeginsWith (sent s) (got s)) last
schedule_front count size events last some run = All-weaker RingOk (λ s. BeginsWith (sent s) (got s)) got_front last (schedule_ok count size events last some run)

pub schedule_ended : (count size : ℕ) (events : List Event) (last : List RingState) → 1 ≤ size → Run (new_rings count size) events last
    → All (λ s. has_ended s ≡ true → got s ≡ sent s) last
schedule_ended count size events last some run = All-weaker RingOk (λ s. has_ended s ≡ true → got s ≡ sent s) got_ended last (schedule_ok count size events last some run)

slice_get-set_other : (rings : List RingState) (ring other : ℕ) (s : RingState) → other ≢ ring → slice_get (set rings ring s) other ≡ slice_get rings other
slice_get-set_other [] ring other s apart = refl
slice_get-set_other (first ∷ rings) zero zero s apart = absurd (apart refl)
slice_get-set_other (first ∷ rings) zero (suc other) s apart = refl
slice_get-set_other (first ∷ rings) (suc ring) zero s apart = refl
slice_get-set_other (first ∷ rings) (suc ring) (suc other) s apart = slice_get-set_other rings ring other s (λ e. apart (ap suc e))

after_step-others : (rings : List RingState) (ring other : ℕ) (step : StepKind) (o : Option RingState) → other ≢ ring → slice_get (rings_after rings ring o step) other ≡ slice_get rings other
after_step-others rings ring other step None apart = refl
after_step-others rings ring other step (Some s) apart = slice_get-set_other rings ring other (after_step s step) apart

pub event_leaves : (rings next : List RingState) (event : Event) (ring : ℕ) → IsEvent rings event next → ring ≢ event.ring → slice_get next ring ≡ slice_get rings ring
event_leaves rings next event ring h apart =
    ap (λ (rs : List RingState). slice_get rs ring) h.next_is ∙ after_step-others rings event.ring ring event.step (slice_get rings event.ring) apart

after_step-length : (rings : List RingState) (ring : ℕ) (step : StepKind) (o : Option RingState) → length (rings_after rings ring o step) ≡ length rings
after_step-length rings ring step None = refl
after_step-length rings ring step (Some s) = length-set rings ring (after_step s step)

pub event_number : (rings next : List RingState) (event : Event) → IsEvent rings event next → length next ≡ length rings
event_number rings next event h = ap (λ (rs : List RingState). length rs) h.next_is ∙ after_step-length rings event.ring event.step (slice_get rings event.ring)
