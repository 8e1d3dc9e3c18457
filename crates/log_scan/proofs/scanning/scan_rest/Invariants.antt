use Rattle.std.proofs.Common.{◌≡◌, ◌-◌, ℕ, List, ◌++◌, Some, false}
use Rattle.checkpoint_io.specs.Places.{with_front}
use Rattle.checkpoint_io.specs.Readers.{StandsFor}
use Rattle.log_scan.specs.Parts.{log_part}
use Rattle.log_scan.proofs.BlockScans.{IsOn}
use Rattle.log_scan.proofs.scanning.scan_rest.Given as goal

-- the reader stands in the file behind blocks that were folded
abbrev pub invariant-loop-block : goal.invariant-loop-block
invariant-loop-block g l = record {
  right : l.reader.failed ≡ false;
  header : l.reader.header ≡ l.fn.reader.header;
  so_far : (start : List ℕ) (read : StandsFor l.fn.reader start) → g.F.BlockFold.has l.fn.fold (Some (log_part l.fn.reader read.blocks))
      → IsOn g.F.BlockFold.has (with_front (start ++ l.fn.reader.waiting.bytes) (g.S.Source.left l.fn.source)) l.reader l.fold (g.S.Source.left l.source);
  counted : g.S.Source.faults l.source ≡ g.S.Source.faults l.fn.source;
  others : g.S.Source.rest l.fn.source l.source;
  fold_others : g.F.BlockFold.rest l.fn.fold l.fold;
}

-- each block takes a byte at least
abbrev pub decreases-loop-block : goal.decreases-loop-block
decreases-loop-block g l = 134217728 - l.reader.offset
