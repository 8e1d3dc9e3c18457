use Rattle.std.proofs.Common.{◌≡◌, ◌≢◌, ℕ, ◌+◌, ◌≤◌, false, List, length, refl, sym, ap, ◌∙◌, arith}
use Rattle.nl_io.specs.Count.{counted}
use Rattle.ring_core.specs.declared.limits.TheConstants.{MAX_POSITION}
use Rattle.ring_core.specs.Positions.{need_from, Need}
use Rattle.ring_core.proofs.lemmas.Needs.{Need-least, Need-most}
use Rattle.ring_machine.specs.Streams.{Walk}
use Rattle.ring_machine.proofs.lemmas.Bars.{may_look, may_publish}
use Rattle.word_ring.specs.declared.known.Known.{Known}
use Rattle.word_ring.specs.declared.word_in.WordIn.TheInside.{Inside}
use Rattle.word_ring.specs.Counts.{IsCount}
use Rattle.word_ring.specs.Ends.{WordWriterEnd}
use Rattle.word_ring.specs.Frames.{with_next}
use Rattle.word_ring.specs.Plays.{written_by, having_looked}
use Rattle.word_ring.specs.Seats.{RingSeat, view}
use Rattle.word_ring.specs.WriterInside.{writer_knows, writer_end_of, IsWordWriter}
use Rattle.word_ring.proofs.Counting.{one_step}
use Rattle.word_ring.proofs.FrameWords.{lawful_head}
use Rattle.word_ring.proofs.SameSeats.{still_seat, same_then}
use Rattle.word_ring.proofs.word_in.WordIn.offer.Goals as goal

pub need_from_place-need-requires-clause-frame : goal.need_from_place-need-requires-clause-frame
need_from_place-need-requires-clause-frame c = (lawful_head c.args.self.now.plan c.args.self.now.sent c.args.frame.now c.requires.lawful).most

-- the ring isn't closed, by what the seat knows
open_inside : (s : Inside) (e : WordWriterEnd) → writer_end_of s ≡ e → e.closed ≡ false → (writer_knows s).writer.closed ≡ false
open_inside s e is h = ap (λ (w : WordWriterEnd). w.closed) is ∙ h

pub look-released-requires-clause-not_barred : goal.look-released-requires-clause-not_barred
look-released-requires-clause-not_barred c =
    let v = writer_knows c.self.inside in
    may_look v.size v.writer (open_inside c.self.inside c.args.self.now c.self.view_is c.requires.not_closed)

-- how many places the frame takes from the position on
needed : (s : Inside) (need : ℕ) (frame : List ℕ) → IsWordWriter s → need ≡ need_from s.place (length frame) s.size → need ≡ Need s.at (length frame) s.size
needed s need frame h is = is ∙ ap (λ (place : ℕ). need_from place (length frame) s.size) h.place

-- the position behind the frame
behind : (s : Inside) (looked put : RingSeat) (found need : ℕ) (frame : List ℕ) → IsWordWriter s → view looked ≡ having_looked (writer_knows s) found
    → written_by (view put) ≡ with_next s.size (written_by (view looked)) frame → need ≡ need_from s.place (length frame) s.size → s.at + need ≡ (written_by (view put)).at
behind s looked put found need frame h knows written is =
    let here : (written_by (view looked)).at ≡ s.at = ap (λ (v : Known). (written_by v).at) knows ∙ h.at in
    ap (λ (n : ℕ). s.at + n) (needed s need frame h is) ∙ (λ i. sym here i + Need (sym here i) (length frame) s.size) ∙ ap (λ (w : Walk). w.at) (sym written)

-- it lies within what a position may be
within_reach : (s : Inside) (e : WordWriterEnd) (need : ℕ) (frame : List ℕ) → IsWordWriter s → s.at ≡ e.at → e.at + 1024 ≤ MAX_POSITION → length frame ≤ 512 → need ≡ need_from s.place (length frame) s.size
    → s.at + need ≤ MAX_POSITION
within_reach s e need frame h is low few need_is =
    omega (arith, is, low, needed s need frame h need_is, Need-most s.at (length frame) s.size (omega (arith, h.size.least)) few)

pub publish-requires-clause-not_barred : goal.publish-requires-clause-not_barred
publish-requires-clause-not_barred c =
    let s = c.self.inside in
    let h = c.self.invariant in
    let e = c.args.self.now in
    let frame = c.args.frame.now in
    let look = c.look-released.ensures in
    let put = c.put_next.ensures in
    let v = view c.put_next.new.seat in
    let unclosed = open_inside s e c.self.view_is c.requires.not_closed in
    let least = (lawful_head e.plan e.sent frame c.requires.lawful).least in
    let further = behind s c.look-released.new.seat c.put_next.new.seat c.look-released.result c.need_from_place-need.result frame h look.knows put.written c.need_from_place-need.ensures in
    let published : v.writer.published ≡ s.at = ap (λ (k : Known). k.writer.published) put.knows ∙ ap (λ (k : Known). k.writer.published) look.knows ∙ h.published unclosed in
    let new : v.writer.published ≢ (written_by v).at =
    λ same. omega (arith, same, published, further, needed s c.need_from_place-need.result frame h c.need_from_place-need.ensures, Need-least s.at (length frame) s.size, least)
    in
    may_publish v.size v.writer (ap (λ (k : Known). k.writer.closed) put.knows ∙ ap (λ (k : Known). k.writer.closed) look.knows ∙ unclosed) (ap (λ (w : Walk). w.part) put.written) new

pub publish-requires-clause-at : goal.publish-requires-clause-at
publish-requires-clause-at c =
    let s = c.self.inside in
    let e = c.args.self.now in
    let frame = c.args.frame.now in
    let few = (lawful_head e.plan e.sent frame c.requires.lawful).most in (
      behind s c.look-released.new.seat c.put_next.new.seat c.look-released.result c.need_from_place-need.result frame c.self.invariant c.look-released.ensures.knows c.put_next.ensures.written c.need_from_place-need.ensures,
      within_reach s e c.need_from_place-need.result frame c.self.invariant (ap (λ (w : WordWriterEnd). w.at) c.self.view_is) c.requires.position few c.need_from_place-need.ensures,
    )

pub invariant_of-self-2 : goal.invariant_of-self-2
invariant_of-self-2 c =
    let s = c.self.inside in
    let h = c.self.invariant in
    let e = c.args.self.now in
    let frame = c.args.frame.now in
    let few = (lawful_head e.plan e.sent frame c.requires.lawful).most in
    let look = c.look-released.ensures in
    let put = c.put_next.ensures in
    let publish = c.publish.ensures in
    let position = behind s c.look-released.new.seat c.put_next.new.seat c.look-released.result c.need_from_place-need.result frame h look.knows put.written c.need_from_place-need.ensures in
    let seen : (view c.publish.new.seat).writer.seen ≡ c.look-released.result =
    ap (λ (v : Known). v.writer.seen) publish.knows ∙ ap (λ (v : Known). v.writer.seen) put.knows ∙ ap (λ (v : Known). v.writer.seen) look.knows
    in
    let looks : (view c.publish.new.seat).writer.looks ≡ counted (writer_knows s).writer.looks =
    ap (λ (v : Known). v.writer.looks) publish.knows ∙ ap (λ (v : Known). v.writer.looks) put.knows ∙ ap (λ (v : Known). v.writer.looks) look.knows
    in
    let looked_steps : (view c.look-released.new.seat).writer.steps ≡ counted (writer_knows s).writer.steps = ap (λ (v : Known). v.writer.steps) look.knows in
    let put_steps : IsCount (view c.look-released.new.seat).writer.steps = omega (arith, looked_steps, (one_step (writer_knows s).writer.steps).range h.steps) in
    let published_steps : (view c.publish.new.seat).writer.steps ≡ counted (view c.put_next.new.seat).writer.steps = ap (λ (v : Known). v.writer.steps) publish.knows in
    record {
      seat = still_seat s.size s.size _ s.seat c.publish.new.seat h.seat (same_then _ _ _ look.same (same_then _ _ _ put.same publish.same)) refl;
      size = h.size;
      told = ap (λ (v : Known). v.size) publish.knows ∙ ap (λ (v : Known). v.size) put.knows ∙ ap (λ (v : Known). v.size) look.knows ∙ h.told;
      writes = ap (λ (v : Known). v.writes) publish.knows ∙ ap (λ (v : Known). v.writes) put.knows ∙ ap (λ (v : Known). v.writes) look.knows ∙ h.writes;
      whole = ap (λ (v : Known). (written_by v).part) publish.knows ∙ ap (λ (w : Walk). w.part) put.written;
      at = ap (λ (v : Known). (written_by v).at) publish.knows ∙ sym position;
      place = c.places_on-self-inside.ensures s.at h.place;
      published = λ _. ap (λ (v : Known). v.writer.published) publish.knows ∙ sym position;
      seen = omega (arith, seen, look.within, h.at);
      looks = omega (arith, looks, (one_step (writer_knows s).writer.looks).range h.looks);
      steps = omega (arith, published_steps, (one_step (view c.put_next.new.seat).writer.steps).range (put.steps.range put_steps));
      position = within_reach s e c.need_from_place-need.result frame h (ap (λ (w : WordWriterEnd). w.at) c.self.view_is) c.requires.position few c.need_from_place-need.ensures;
    }
