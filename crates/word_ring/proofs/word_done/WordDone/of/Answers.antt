use Rattle.std.proofs.Common.{◌≡◌, ◌+◌, sym, ap, ◌∙◌, arith}
use Rattle.std.specs.Arc.{arc_value}
use Rattle.word_ring.specs.declared.places.TheConstants.{DATA}
use Rattle.word_ring.specs.Ends.{WordWriterEnd, WordRoamerEnd}
use Rattle.word_ring.proofs.SeatSteps.{joins}
use Rattle.word_ring.proofs.SameSeats.{same_table}
use Rattle.word_ring.proofs.word_done.WordDone.of.Goals as goal

pub join_seat-requires : goal.join_seat-requires
join_seat-requires c =
    let w = c.writer.inside.seat in
    let r = c.roamer.inside.seat in
    let one : r.table_id ≡ w.table_id =
    same_table r.table_id w.table_id (ap (λ (e : WordRoamerEnd). e.pair) c.roamer.view_is ∙ sym c.requires ∙ sym (ap (λ (e : WordWriterEnd). e.pair) c.writer.view_is))
    in
    let seat = c.writer.invariant.seat in
    let table : arc_value c.writer.inside.ring ≡ c.deref-table.result.now = sym c.deref-table.ensures in
    let here : w.table_id ≡ c.deref-table.result.now.shared.table_id = seat.one ∙ ap (λ t. t.shared.table_id) table in
    let words : c.deref-table.result.now.shared.table_id.words ≡ DATA + c.writer.inside.size = sym (ap (λ t. t.shared.table_id.words) table) ∙ seat.words in
    (here, one ∙ here, c.roamer.invariant.seat.holds, omega (arith, words), joins _ _ _ _ _ c.writer.invariant.writes c.roamer.invariant.reads)
