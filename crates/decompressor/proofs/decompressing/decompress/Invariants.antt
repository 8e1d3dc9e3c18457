use Rattle.std.proofs.Common.{◌≡◌, ◌-◌, []}
use Rattle.decompressor.proofs.Outcomes.{IsOn}
use Rattle.decompressor.proofs.decompressing.decompress.Given as goal

-- the text of what was taken was put
abbrev pub invariant-loop-printer : goal.invariant-loop-printer
invariant-loop-printer g l = record {
  held : l.text_writer ≡ [];
  on : IsOn (g.S.Source.left l.fn.source) (g.K.Sink.put l.fn.out) l.printer (g.S.Source.left l.source) (g.K.Sink.put l.out);
  counted : g.S.Source.faults l.source ≡ g.S.Source.faults l.fn.source;
  written : g.K.Sink.faults l.out ≡ g.K.Sink.faults l.fn.out;
  source_others : g.S.Source.rest l.fn.source l.source;
  out_others : g.K.Sink.rest l.fn.out l.out;
}

-- each step takes a block
abbrev pub decreases-loop-printer : goal.decreases-loop-printer
decreases-loop-printer g l = 134217728 - l.printer.reader.offset
