-- What a reader keeps of clocks and stamps.
use Rattle.std.specs.Prelude.{◌≡◌, ◌↔◌, ℕ, ◌<◌, List, [], ◌∷◌, ◌++◌}
use Rattle.std.specs.List.{AllByRecursion}
use Rattle.log_dictionary.specs.declared.clock.Clock.{Clock}
use Rattle.log_dictionary.specs.Clocks.{last_tick}
use Rattle.checkpoint_io.specs.declared.header.Header.{Header}
use Rattle.checkpoint_io.specs.Blocks.{Block, clocks_of, all_records}

pub record TimeState : Type 0 where
  pub clocks : List Clock
  -- the greatest stamp of a record; the header's tick where there is none
  pub greatest : ℕ

-- with this clock behind the others
abbrev pub with_clock : Clock → TimeState → TimeState
with_clock clock times = record times { clocks = times.clocks ++ clock ∷ [] }

-- They are those that the blocks give: no record has reached a tick above those of the clocks exactly where the greatest
-- stamp hasn't.
pub record AreTimesOf (times : TimeState) (header : Header) (blocks : List Block) : Type 0 where
  pub clocks_are : times.clocks ≡ clocks_of header blocks
  pub early : (tick : ℕ) → last_tick times.clocks < tick
      → AllByRecursion (λ call. call.stamp < tick) (all_records blocks) ↔ (times.greatest < tick)
