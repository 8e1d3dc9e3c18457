-- The rule of a table that is a ring: its words lay out a state of the pure machine, of which everything holds that holds
-- of a ring at every moment. One seat at most makes the writer's steps, and one the roamer's.
use Rattle.std.specs.Prelude.{◌≡◌, ℕ, ◌+◌, ◌*◌, ◌<◌, Bool, true, false, if◌then◌else◌, List, [], length, slice_index}
use mathlib.Core.Option.{some}
use lib.ListN.{get_elem?}
use Rattle.atomic_table.specs.Table.{State}
use Rattle.ring_core.specs.Plans.{Plan}
use Rattle.ring_machine.specs.declared.records.WriterRecord.{WriterRecord}
use Rattle.ring_machine.specs.declared.records.RoamerRecord.{RoamerRecord}
use Rattle.ring_machine.specs.RingStates.{RingState, RingOk, RingLawful, new_writer, new_roamer}
use Rattle.word_ring.specs.declared.known.Known.{Known}
use Rattle.word_ring.specs.declared.places.TheConstants.{PRODUCER, CONSUMER, DATA}

-- ---- what seats know

-- the plan that a seat knows
abbrev pub plan_in : Known → Plan
plan_in v = record { types = v.types; first = v.first }

abbrev pub known : Bool → Bool → ℕ → Plan → WriterRecord → RoamerRecord → Known
known writes reads size plan writer roamer = record {
  writes = writes;
  reads = reads;
  size = size;
  types = plan.types;
  first = plan.first;
  writer = writer;
  roamer = roamer;
}

-- the plan before there is one
abbrev pub no_plan : Plan
no_plan = record { types = []; first = 0 }

-- the first seat of a table of so many data words
abbrev pub newcomer : ℕ → Known
newcomer size = known true true size no_plan new_writer new_roamer

abbrev pub writer_of : Plan → Known → Known
writer_of plan v = known true false v.size plan v.writer new_roamer

abbrev pub roamer_of : Plan → Known → Known
roamer_of plan v = known false true v.size plan new_writer v.roamer

abbrev pub both_of : Known → Known → Known
both_of writer roamer = known true true writer.size (plan_in writer) writer.writer roamer.roamer

abbrev pub spent : Known
spent = known false false 0 no_plan new_writer new_roamer

-- ---- the words

-- the producer word: twice the published position, and one more once the ring is closed
abbrev pub producer_word : RingState → ℕ
producer_word ring = 2 * ring.published + (if ring.closed then 1 else 0)

-- the words of the table lay out the ring
pub record LaysOut (size : ℕ) (words : List ℕ) (ring : RingState) : Type 0 where
  pub size_is : ring.size ≡ size
  pub long : length words ≡ DATA + size
  pub producer : slice_index words PRODUCER ≡ producer_word ring
  pub consumer : slice_index words CONSUMER ≡ ring.released
  pub stored : (place : ℕ) → place < size → slice_index words (DATA + place) ≡ slice_index ring.words place

-- ---- the rule

-- the seat is the one of this number, and it knows the plan and the number of data words
abbrev pub IsEnd : ℕ → Plan → ℕ → ℕ → Known → Type 0
IsEnd size plan number seat v = (seat ≡ number) × (plan_in v ≡ plan) × (v.size ≡ size)

-- what the seat of this number knows of the ring
pub record SeatKnows (size : ℕ) (plan : Plan) (ring : RingState) (writer roamer seat : ℕ) (v : Known) : Type 0 where
  pub writes : v.writes ≡ true → IsEnd size plan writer seat v × (v.writer ≡ ring.writer)
  pub reads : v.reads ≡ true → IsEnd size plan roamer seat v × (v.roamer ≡ ring.roamer)

-- a table whose seats know of a ring
abbrev pub RingTable : Type 0
RingTable = State (Unit {0}) Known

pub record IsRingTable (size : ℕ) (table : RingTable) : Type 0 where
  pub plan : Plan
  pub ring : RingState
  pub writer : ℕ
  pub roamer : ℕ
  pub laid : LaysOut size table.words ring
  pub ok : RingOk ring
  pub lawful : RingLawful plan ring
  pub each : (seat : ℕ) (v : Known) → get_elem? table.views seat ≡ some v
      → SeatKnows size plan ring writer roamer seat v
