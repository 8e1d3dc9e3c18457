use Rattle.std.proofs.Common.{◌≡◌, ◌-◌, List}
use Rattle.std.specs.Prelude.{map}
use Rattle.checkpoint_io.specs.Blocks.{Block}
use Rattle.checkpoint_io.specs.declared.heads.TheConstants.{MAX_LOG}
use Rattle.direct_printf.specs.Lines.{origin_text, AreFirstOrigins}
use Rattle.decompressor.specs.Decompressors.{HasToPrint}
use Rattle.decompressor.proofs.LinesOut.{HasLines}
use Rattle.decompressor.proofs.printing.print_ready.Given as goal

-- the lines so far are on their way, and the other records wait
abbrev pub invariant-loop-writer : goal.invariant-loop-writer
invariant-loop-writer g l =
    record {
      lines_so_far : (first all : List Block) (ready : HasToPrint l.ended l.reader first all l.fn.waiting l.fn.merger)
          → HasLines l.ended l.reader first all ready.valid l.lines (g.K.Sink.put l.fn.out) (g.K.Sink.put l.out) l.text_writer l.waiting l.merger;
      origins : l.context.origins ≡ map origin_text l.reader.messages;
      first : AreFirstOrigins l.context.origins l.reader.messages;
      counted : g.K.Sink.faults l.out ≡ g.K.Sink.faults l.fn.out;
      others : g.K.Sink.rest l.fn.out l.out;
    }

-- each turn prints a line, of which there are no more than bytes
abbrev pub decreases-loop-writer : goal.decreases-loop-writer
decreases-loop-writer g l = MAX_LOG - l.lines
