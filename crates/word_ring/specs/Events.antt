-- The steps of a ring's seats, as steps of the machine.
use Rattle.std.specs.Prelude.{◌≡◌, ℕ, [], slice_index}
use mathlib.Core.Option.{some}
use lib.ListN.{get_elem?}
use Rattle.atomic_table.specs.Table.{stepped, keeps}
use Rattle.ring_machine.specs.declared.steps.StepKind.{StepKind}
use Rattle.ring_machine.specs.Steps.{IsStep}
use Rattle.word_ring.specs.declared.known.Known.{Known}
use Rattle.word_ring.specs.Rule.{RingTable, IsRingTable}

-- A table, which was a ring, is one again, and the ring has made this step of the machine, which wasn't barred. The
-- plan is the same, and so is the seat of each end.
pub record StepsRing (size : ℕ) (table : RingTable) (before : IsRingTable size table) (step : StepKind)
    (next : RingTable) : Type 0 where
  pub after : IsRingTable size next
  pub event : IsStep before.ring step after.ring
  pub plan : after.plan ≡ before.plan
  pub ends : (after.writer ≡ before.writer) × (after.roamer ≡ before.roamer)

-- Whatever ring the table is, what the seat of this number, which knows `v`, does to the word at a place is this step
-- of the machine. `puts` makes the new word of the one that is found, and of that one `now` makes what the seat then
-- knows.
abbrev pub MakesStep : ℕ → ℕ → Known → ℕ → (ℕ → ℕ) → (ℕ → Known) → StepKind → Type 0
MakesStep size seat v place puts now step =
    (table : RingTable) (before : IsRingTable size table) → get_elem? table.views seat ≡ some v
    → StepsRing size table before step
    (stepped table place (puts (slice_index table.words place)) seat [] (now (slice_index table.words place)) keeps)

-- A table, which was a ring, is this very ring again.
pub record StaysRing (size : ℕ) (table : RingTable) (before : IsRingTable size table) (next : RingTable)
    : Type 0 where
  pub after : IsRingTable size next
  pub same : after.ring ≡ before.ring
