use Rattle.std.proofs.Common.{◌≡◌, ℕ, List}
use Rattle.std.specs.Prelude.{filter, not}
use Rattle.std.specs.List.{list_any, range_with_len}
use Rattle.checkpoint_io.specs.Readers.{StandsFor}
use Rattle.checkpoint_io.specs.Validity.{closes}
use Rattle.decompressor.proofs.decompressing.open_writers.Given as goal

-- those so far that no block closes
abbrev pub invariant-loop-writer : goal.invariant-loop-writer
invariant-loop-writer l = (taken : List ℕ) (read : StandsFor l.reader taken) → l.unclosed ≡ filter (λ writer. not (list_any (closes writer) read.blocks)) (range_with_len 0 l.writer)
