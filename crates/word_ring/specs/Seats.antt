-- Seats of a ring's table.
use Rattle.std.specs.Prelude.{◌≡◌, ℕ, ◌+◌, []}
use Rattle.atomic_table.specs.declared.owned.Table.{Table}
use Rattle.atomic_table.specs.declared.shared.Seat.{Seat}
use Rattle.word_ring.specs.declared.known.Known.{Known}
use Rattle.word_ring.specs.declared.places.TheConstants.{DATA}

abbrev pub RingSeat : Type 0
RingSeat = Seat (Unit {0}) Known

-- what the seat knows
abbrev pub view : RingSeat → Known
view seat = seat.me.0

-- it is the same seat of the same table, and it holds no slot
pub record IsSameSeat (old new : RingSeat) : Type 0 where
  pub one : new.table_id ≡ old.table_id
  pub number : new.id ≡ old.id
  pub holds : new.me.1 ≡ []

module _ {P A : Type 0} where
  -- the seat is one of the table, which has so many data words, and it holds no slot
  pub record IsSeatOf (size : ℕ) (table : Table (Unit {0}) Known ℕ P A) (seat : RingSeat) : Type 0 where
    pub one : seat.table_id ≡ table.shared.table_id
    pub words : table.shared.table_id.words ≡ DATA + size
    pub holds : seat.me.1 ≡ []
