-- The records that wait to be printed, the bytes in which they stand, and what a merger has of them.
use Rattle.std.specs.Prelude.{◌≡◌, ℕ, ◌<◌, ◌≤◌, Bool, false, ◌||◌, Option, None, Some, List, [], ◌∷◌, ◌++◌, length, drop, get_or}
use Rattle.log_dictionary.specs.declared.message.Message.{Message}
use Rattle.arg_records.specs.declared.call.Call.{Call}
use Rattle.buffer_extent.specs.declared.take.RecordHeader.{RecordHeader}
use Rattle.buffer_extent.specs.Reading.{header_of}
use Rattle.buffer_extent.specs.Bodies.{IsBody, GoesOn}
use Rattle.checkpoint_io.specs.Blocks.{Block}
use Rattle.checkpoint_io.specs.Readers.{ReaderState}
use Rattle.checkpoint_io.specs.Validity.{block_records, closes, IsOf}
use Rattle.stamp_merge.specs.declared.merger.ListState.{ListState}
use Rattle.stamp_merge.specs.Mergers.{list_at}

-- ---- the records of a writer

pub record QueueState : Type 0 where
  -- the bodies of extents that aren't printed whole, in order
  pub bodies : List (List ℕ)
  -- what the first record that waits begins with, and the place in the first body where its arguments begin
  pub head : RecordHeader
  pub place : ℕ

-- the stamp of the first record
abbrev pub first_of : List (List ℕ) → RecordHeader → Option ℕ
first_of [] head = None
first_of (body ∷ bodies) head = Some head.stamp

-- so many bodies, one behind another, have these records
abbrev pub AreBodies : List Message → ℕ → List (List ℕ) → List Call → Type 0
AreBodies messages tick [] records = records ≡ []
AreBodies messages tick (body ∷ bodies) records =
    (first : Call) × (own : List Call) × (more : List Call) × (last : ℕ) × (records ≡ (first ∷ own) ++ more)
    × IsBody messages tick last (first ∷ own) body × AreBodies messages tick bodies more

-- the queue has this record first, and the others behind it
pub record HoldsFirst (messages : List Message) (tick : ℕ) (queue : QueueState) (first : Call)
    (others : List Call) : Type 0 where
  pub body : List ℕ
  pub bodies : List (List ℕ)
  pub bodies_are : queue.bodies ≡ body ∷ bodies
  pub head_is : queue.head ≡ header_of first
  pub within : queue.place ≤ length body
  pub own : List Call
  pub more : List Call
  pub joined : others ≡ own ++ more
  pub goes_on : GoesOn messages first own (drop queue.place body)
  pub behind : AreBodies messages tick bodies more

-- the queue has these records, whose bodies count from the tick
abbrev pub HoldsRecords : List Message → ℕ → QueueState → List Call → Type 0
HoldsRecords messages tick queue [] = queue.bodies ≡ []
HoldsRecords messages tick queue (first ∷ others) = HoldsFirst messages tick queue first others

-- ---- the records of all writers

-- The merger has the stamp of the first of a writer's records. Where there are none the list is closed once none can
-- come.
abbrev pub list_of : Bool → List Call → ListState
list_of closed [] = record { head = None; closed = closed }
list_of closed (logged ∷ records) = record { head = Some logged.stamp; closed = false }

abbrev pub records_at : List (List Call) → ℕ → List Call
records_at waiting writer = get_or waiting writer []

-- there is a list of each writer, of which is known whether records can still come
pub record HasHeads (closed : ℕ → Bool) (lists : List ListState) (waiting : List (List Call)) : Type 0 where
  pub many : length lists ≡ length waiting
  pub each : (writer : ℕ) → writer < length waiting
      → list_at lists writer ≡ list_of (closed writer) (records_at waiting writer)

abbrev pub no_queue : QueueState
no_queue = record { bodies = []; head = record { id = 0; stamp = 0 }; place = 0 }

abbrev pub queue_at : List QueueState → ℕ → QueueState
queue_at queues writer = get_or queues writer no_queue

-- the queues have these records, writer by writer
pub record AreHeld (messages : List Message) (tick : ℕ) (queues : List QueueState)
    (records : List (List Call)) : Type 0 where
  pub many : length queues ≡ length records
  pub each : (writer : ℕ) → writer < length records
      → HoldsRecords messages tick (queue_at queues writer) (records_at records writer)

-- The queues have these records of a log that is read so far, and the merger has the first ones.
pub record AreShown (closed : ℕ → Bool) (reader : ReaderState) (queues : List QueueState) (lists : List ListState)
    (records : List (List Call)) : Type 0 where
  pub held : AreHeld reader.messages reader.header.clock.tick queues records
  pub heads : HasHeads closed lists records

-- the writer of the block is one of these, and records of it can still come
abbrev pub MayStillCome : (ℕ → Bool) → ℕ → Block → Type 0
MayStillCome closed count block = (writer : ℕ) → IsOf writer block → (writer < count) × (closed writer ≡ false)

-- behind the block
abbrev pub closed_behind : (ℕ → Bool) → Block → ℕ → Bool
closed_behind closed block writer = closed writer || closes writer block

-- the records of the block wait behind those that did
pub record TakesRecords (closed : ℕ → Bool) (block : Block) (old new : List (List Call))
    (lists : List ListState) : Type 0 where
  pub count : length new ≡ length old
  pub waiting : (writer : ℕ) → records_at new writer ≡ records_at old writer ++ block_records writer block
  pub heads : HasHeads (closed_behind closed block) lists new

-- so it is, and the queues have these records
pub record AddsBlock (closed : ℕ → Bool) (block : Block) (reader : ReaderState) (old : List (List Call))
    (queues : List QueueState) (lists : List ListState) : Type 0 where
  pub records : List (List Call)
  pub takes : TakesRecords closed block old records lists
  pub held : AreHeld reader.messages reader.header.clock.tick queues records
