-- What a reader keeps of the writers.
use Rattle.std.specs.Prelude.{◌≡◌, ℕ, ◌<◌, Bool, false, List, length, map, get_or}
use Rattle.std.specs.List.{list_any}
use Rattle.checkpoint_io.specs.declared.header.Header.{Header}
use Rattle.checkpoint_io.specs.declared.writers.WriterState.{WriterState}
use Rattle.checkpoint_io.specs.Blocks.{Block}
use Rattle.checkpoint_io.specs.Validity.{records_of, last_stamp, closes}

-- the stamp of the writer's last record
abbrev pub last_kept : List WriterState → ℕ → ℕ
last_kept states writer = get_or (map (λ state. state.last) states) writer 0

-- the writer is closed; one that has no state isn't
abbrev pub closed_kept : List WriterState → ℕ → Bool
closed_kept states writer = get_or (map (λ state. state.closed) states) writer false

-- there is one for each writer of the header, and they are those that the blocks give; where a writer has no record,
-- its stamp is the tick
pub record AreStatesOf (states : List WriterState) (header : Header) (blocks : List Block) : Type 0 where
  pub many : length states ≡ header.writers
  pub lasts : (writer : ℕ) → writer < header.writers
      → last_kept states writer ≡ last_stamp header.clock.tick (records_of writer blocks)
  pub closed : (writer : ℕ) → writer < header.writers → closed_kept states writer ≡ list_any (closes writer) blocks
