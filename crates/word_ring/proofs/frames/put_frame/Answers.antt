use Rattle.std.proofs.Common.{ap, ◌∙◌, take_all}
use Rattle.word_ring.specs.declared.known.Known.{Known}
use Rattle.word_ring.specs.Frames.{with_words}
use Rattle.word_ring.specs.Plays.{written_by}
use Rattle.word_ring.specs.Rule.{plan_in}
use Rattle.word_ring.specs.Seats.{view}
use Rattle.word_ring.proofs.SameSeats.{still_seat, same_then}
use Rattle.word_ring.proofs.FrameWords.{all_words, lawful_head}
use Rattle.word_ring.proofs.Storing.{next_place, next_open, next_lawful, next_stored}
use Rattle.word_ring.proofs.frames.put_frame.Goals as goal

pub put-requires-clause-place : goal.put-requires-clause-place
put-requires-clause-place c =
    next_place (view c.args.seat.now) c.args.frame.now c.requires.may (view c.loop-i.seat) c.loop-i.i c.loop-i.invariant.stored c.loop-i-test.true
    c.args.place c.requires.size c.requires.place

pub put-requires-clause-not_barred : goal.put-requires-clause-not_barred
put-requires-clause-not_barred c =
    next_open (view c.args.seat.now) c.args.frame.now c.requires.may (view c.loop-i.seat) c.loop-i.i c.loop-i.invariant.stored c.loop-i-test.true c.requires.not_closed

pub put-requires-clause-lawful : goal.put-requires-clause-lawful
put-requires-clause-lawful c = next_lawful (view c.args.seat.now) c.args.frame.now c.requires.may (view c.loop-i.seat) c.loop-i.i c.loop-i.invariant.stored c.loop-i-test.true

pub loop-i-preserved : goal.loop-i-preserved
loop-i-preserved c =
    let e = c.put.ensures in
    let h = c.loop-i.invariant in
    record {
      seat = still_seat _ _ c.args.table.now c.loop-i.seat c.put.new.seat h.seat e.same (ap (λ (v : Known). v.size) e.knows);
      same = same_then c.args.seat.now c.loop-i.seat c.put.new.seat h.same e.same;
      stored = next_stored (view c.args.seat.now) c.args.frame.now c.requires.may (view c.loop-i.seat) c.loop-i.i h.stored c.loop-i-test.true (view c.put.new.seat) e.knows;
    }

pub returns-clause-written : goal.returns-clause-written
returns-clause-written c =
    let v = view c.args.seat.now in
    let frame = c.args.frame.now in
    c.loop-i.invariant.stored.written ∙ ap (with_words (written_by v)) (take_all c.loop-i.i frame c.loop-i-test.false)
    ∙ all_words (written_by v) frame (lawful_head (plan_in v) (written_by v).frames frame c.requires.may.lawful)
