use Rattle.std.proofs.Common.{◌≡◌, ℕ, ◌<◌, Bool, true, List}
use Rattle.arg_records.specs.declared.call.Call.{Call}
use Rattle.checkpoint_io.specs.Readers.{ReaderState}
use Rattle.decompressor.specs.Waiting.{HasHeads, AreShown}
use Rattle.decompressor.proofs.showing.close_all.Given as goal

-- no more can come of the writers so far
abbrev pub invariant-loop-writer : goal.invariant-loop-writer
invariant-loop-writer l =
    (closed : ℕ → Bool) (reader : ReaderState) (records : List (List Call)) → AreShown closed reader l.waiting l.fn.merger records
    → (now : ℕ → Bool) × HasHeads now l.merger records × ((w : ℕ) → w < l.writer → now w ≡ true)
