use Rattle.std.proofs.Common.{◌≡◌, false, sym, ap, ◌∙◌}
use Rattle.ring_machine.proofs.lemmas.Bars.{may_close}
use Rattle.word_ring.specs.Ends.{WordWriterEnd}
use Rattle.word_ring.specs.WriterInside.{writer_knows}
use Rattle.word_ring.proofs.word_in.WordIn.close.Goals as goal

pub close-requires-clause-not_barred : goal.close-requires-clause-not_barred
close-requires-clause-not_barred c =
    let s = c.self.inside in
    let v = writer_knows s in
    let unclosed : v.writer.closed ≡ false = ap (λ (w : WordWriterEnd). w.closed) c.self.view_is ∙ c.requires in
    may_close v.size v.writer unclosed c.self.invariant.whole (c.self.invariant.published unclosed ∙ sym c.self.invariant.at)
