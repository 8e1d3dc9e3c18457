use Rattle.std.proofs.Common.{◌≡◌, ℕ, ◌+◌, ◌-◌, ◌%◌, ◌≤◌, List, [], ◌∷◌, ◌++◌, length, take, refl, ap, ◌∙◌, arith}
use Rattle.ring_machine.specs.Streams.{frame_len}
use Rattle.ring_machine.proofs.lemmas.Bars.{may_read}
use Rattle.word_ring.specs.declared.known.Known.{Known}
use Rattle.word_ring.specs.Plays.{read_by}
use Rattle.word_ring.specs.Seats.{view}
use Rattle.word_ring.proofs.SameSeats.{still_seat, same_then}
use Rattle.word_ring.proofs.Reading.{head_read, next_place, next_left, next_read, all_read}
use Rattle.word_ring.proofs.frames.read_frame.Goals as goal

pub loop-i-init : goal.loop-i-init
loop-i-init c = record {
  seat = c.requires.seat;
  same = record { one = refl; number = refl; holds = c.requires.seat.holds };
  read = head_read (view c.args.seat.now) c.args.head c.requires.begun c.requires.head c.args.into.now c.told-into;
}

pub read-requires-clause-place : goal.read-requires-clause-place
read-requires-clause-place c =
    next_place (view c.args.seat.now) c.args.head c.requires.begun c.requires.head (view c.loop-i.seat) c.loop-i.into c.loop-i.i c.loop-i.invariant.read c.loop-i-test.true c.requires.most c.args.place c.requires.size c.requires.place

pub read-requires-clause-not_barred : goal.read-requires-clause-not_barred
read-requires-clause-not_barred c =
    let v = view c.loop-i.seat in
    may_read v.size v.roamer
    (next_left (view c.args.seat.now) c.args.head c.requires.begun c.requires.head v c.loop-i.into c.loop-i.i c.loop-i.invariant.read c.loop-i-test.true c.requires.most)

pub loop-i-preserved : goal.loop-i-preserved
loop-i-preserved c =
    let e = c.read.ensures in
    let h = c.loop-i.invariant in
    record {
      seat = still_seat _ _ c.args.table.now c.loop-i.seat c.read.new.seat h.seat e.same (ap (λ (v : Known). v.size) e.knows);
      same = same_then c.args.seat.now c.loop-i.seat c.read.new.seat h.same e.same;
      read = next_read (view c.args.seat.now) c.args.head c.requires.begun c.requires.head (view c.loop-i.seat) c.loop-i.into c.loop-i.i h.read c.loop-i-test.true c.requires.most
          (view c.read.new.seat) c.read.result e.knows e.lawful;
    }

pub returns-clause-read : goal.returns-clause-read
returns-clause-read c =
    let v = view c.args.seat.now in
    let head = c.args.head in
    let one = c.requires.head in
    let some : 1 ≤ head % 65536 = omega (arith, c.requires.begun.short, ap (λ (ws : List ℕ). length ws) one, ap frame_len one) in
    let all : c.loop-i.i ≡ head % 65536 = omega (arith, c.loop-i-test.false, c.loop-i.auto.i-end some) in
    all_read v head c.requires.begun one (view c.loop-i.seat) c.loop-i.into c.loop-i.i c.loop-i.invariant.read all (omega (arith, all, c.requires.most))
    ∙ (λ t. record { at = (read_by v).at + (all t - 1); frames = (read_by v).frames ++ take (all t) c.loop-i.into ∷ []; part = [] })
