use Rattle.std.proofs.Common.{◌≡◌, ℕ, ◌+◌, ◌%◌, ◌<◌, length, sym, ap, ◌∙◌, subst}
use Rattle.word_ring.specs.declared.known.Known.{Known}
use Rattle.word_ring.specs.Ends.{IsTableSize}
use Rattle.word_ring.specs.Frames.{with_next}
use Rattle.word_ring.specs.Plays.{written_by}
use Rattle.word_ring.specs.Seats.{view}
use Rattle.word_ring.proofs.Puts.{may_put}
use Rattle.word_ring.proofs.Putting.{mark_fits, mark_lawful, place_begins, may_store_behind, stored_behind}
use Rattle.word_ring.proofs.frames.put_next.Goals as goal

-- the frame would cross the ring's end
beyond : (v : Known) (place size n : ℕ) → (size ≡ v.size) × (place ≡ (written_by v).at % size) → size < place + n → v.size < (written_by v).at % v.size + n
beyond v place size n told test = subst (λ (x : ℕ × ℕ). x.0 < x.1 + n) (λ i. (told.0 i, (told.1 ∙ ap (λ (m : ℕ). (written_by v).at % m) told.0) i)) test

size_of : (v : Known) (size : ℕ) → size ≡ v.size → IsTableSize size → IsTableSize v.size
size_of v size is h = subst IsTableSize is h

pub put-requires-clause-not_barred : goal.put-requires-clause-not_barred
put-requires-clause-not_barred c =
    let v = view c.args.seat.now in
    let r = c.requires in
    may_put v 0 r.not_closed
    (mark_fits v c.args.frame.now (size_of v c.args.size r.told.0 r.size) r.may (beyond v c.args.place c.args.size (length c.args.frame.now) r.told c.if-place-frame.false))

pub put-requires-clause-lawful : goal.put-requires-clause-lawful
put-requires-clause-lawful c =
    let v = view c.args.seat.now in
    let r = c.requires in
    mark_lawful v c.args.frame.now (size_of v c.args.size r.told.0 r.size) r.may (beyond v c.args.place c.args.size (length c.args.frame.now) r.told c.if-place-frame.false)

pub put_frame-requires-2-clause-place : goal.put_frame-requires-2-clause-place
put_frame-requires-2-clause-place c =
    let v = view c.args.seat.now in
    let r = c.requires in
    place_begins v c.args.frame.now (size_of v c.args.size r.told.0 r.size) r.may (beyond v c.args.place c.args.size (length c.args.frame.now) r.told c.if-place-frame.false)
    (view c.put.new.seat) c.put.ensures.knows

pub put_frame-requires-2-clause-may : goal.put_frame-requires-2-clause-may
put_frame-requires-2-clause-may c =
    let v = view c.args.seat.now in
    let r = c.requires in
    may_store_behind v c.args.frame.now (size_of v c.args.size r.told.0 r.size) r.may (beyond v c.args.place c.args.size (length c.args.frame.now) r.told c.if-place-frame.false)
    (view c.put.new.seat) c.put.ensures.knows

pub returns-clause-written : goal.returns-clause-written
returns-clause-written c =
    let v = view c.args.seat.now in
    let r = c.requires in
    let frame = c.args.frame.now in
    c.put_frame-2.ensures.written
    ∙ stored_behind v frame (size_of v c.args.size r.told.0 r.size) r.may (beyond v c.args.place c.args.size (length frame) r.told c.if-place-frame.false) (view c.put.new.seat) c.put.ensures.knows
    ∙ ap (λ (n : ℕ). with_next n (written_by v) frame) (sym r.told.0)
