-- The log that a run gives.
use Rattle.std.specs.Prelude.{◌≡◌, ◌⊎◌, ℕ, ◌+◌, ◌≤◌, nat_le, List, [], ◌∷◌, ◌++◌, length, map, max, take, drop, filter}
use Rattle.std.specs.List.{range_with_len}
use Rattle.log_dictionary.specs.declared.message.Message.{Message}
use Rattle.log_dictionary.specs.declared.clock.Clock.{Clock}
use Rattle.arg_records.specs.declared.call.Call.{Call}
use Rattle.checkpoint_io.specs.declared.header.Header.{Header}
use Rattle.checkpoint_io.specs.declared.heads.TheConstants.{MAX_FRAGMENT_MESSAGES}
use Rattle.checkpoint_io.specs.Blocks.{Block, Fragment, Extent, NewClock, Close, messages_of, clocks_of, clocks_in, FileOf}
use Rattle.checkpoint_io.specs.Validity.{records_of, Valid}

-- one more than the greatest id of the records; 0 where there are none
abbrev pub ids_used : List Call → ℕ
ids_used [] = 0
ids_used (call ∷ records) = max (call.id + 1) (ids_used records)

-- the blocks are fragments which define these messages, with ids that count from the first; all but the last have 16
abbrev pub AreFragments : ℕ → List Message → List Block → Type 0
AreFragments first messages [] = messages ≡ []
AreFragments first messages (Fragment id front ∷ blocks) =
    (back : List Message) × (id ≡ first) × (messages ≡ front ++ back)
    × ((back ≡ []) ⊎ (length front ≡ MAX_FRAGMENT_MESSAGES)) × AreFragments (first + length front) back blocks
AreFragments first messages (Extent writer records ∷ blocks) = ⊥
AreFragments first messages (NewClock clock ∷ blocks) = ⊥
AreFragments first messages (Close writer ∷ blocks) = ⊥

-- the messages whose ids are used by the records and aren't defined yet
abbrev pub new_messages : List Message → ℕ → List Call → List Message
new_messages dictionary defined records = drop defined (take (ids_used records) dictionary)

-- the block has at most so many records
abbrev pub HasAtMost : ℕ → Block → Type 0
HasAtMost batch (Fragment first messages) = Unit {0}
HasAtMost batch (Extent writer records) = length records ≤ batch
HasAtMost batch (NewClock clock) = Unit {0}
HasAtMost batch (Close writer) = Unit {0}

-- the greatest stamp of the records; 0 where there are none
abbrev pub greatest_stamp : List Call → ℕ
greatest_stamp [] = 0
greatest_stamp (call ∷ records) = max call.stamp (greatest_stamp records)

-- of the clocks behind the first ones, so many of which were written, those whose ticks the records reach
abbrev pub new_clocks : List Clock → ℕ → List Call → List Clock
new_clocks clocks written records = filter (λ clock. nat_le clock.tick (greatest_stamp records)) (drop written clocks)

-- What stands right in front of an extent of these records, behind the blocks before: the clocks that aren't written
-- yet and whose ticks the records reach, and then the fragments of the messages that they want.
pub record StandsInFront (clocks : List Clock) (dictionary : List Message) (before : List Block) (records : List Call)
    (front : List Block) : Type 0 where
  pub fragments : List Block
  pub are : AreFragments (length (messages_of before))
      (new_messages dictionary (length (messages_of before)) records) fragments
  pub joined : front ≡ map NewClock (new_clocks clocks (1 + length (clocks_in before)) records) ++ fragments

-- Behind the blocks before, the blocks are extents of at most so many records, each with the clocks and the fragments
-- that it wants right in front of it, and close marks. There are no other clocks and no other fragments.
pub data IsLaidOut (clocks : List Clock) (dictionary : List Message) (batch : ℕ)
    : List Block → List Block → Type 0 where
  ends : (before : List Block) → IsLaidOut clocks dictionary batch before []
  extent : (before front : List Block) (writer : ℕ) (records : List Call) (others : List Block)
      → StandsInFront clocks dictionary before records front
      → length records ≤ batch
      → IsLaidOut clocks dictionary batch (before ++ front ++ Extent writer records ∷ []) others
      → IsLaidOut clocks dictionary batch before (front ++ Extent writer records ∷ others)
  close : (before : List Block) (writer : ℕ) (others : List Block)
      → IsLaidOut clocks dictionary batch (before ++ Close writer ∷ []) others
      → IsLaidOut clocks dictionary batch before (Close writer ∷ others)

-- The bytes are the log of calls that were taken, per writer. The header has the version, the first clock and the number
-- of writers. The clocks and the messages are those of the run and of the dictionary, from the front, and the records of
-- each writer are its calls, in their order.
pub record LogOf (bytes : List ℕ) (taken : List (List Call)) (dictionary : List Message) (version : ℕ)
    (clocks : List Clock) (batch : ℕ) : Type 0 where
  pub header : Header
  pub blocks : List Block
  pub file : FileOf header blocks bytes
  pub valid : Valid header blocks
  pub version_is : header.version ≡ version
  pub unwritten : List Clock
  pub clocks_are : clocks ≡ clocks_of header blocks ++ unwritten
  pub writers_are : header.writers ≡ length taken
  pub undefined : List Message
  pub messages_are : dictionary ≡ messages_of blocks ++ undefined
  pub records_are : taken ≡ map (λ writer. records_of writer blocks) (range_with_len 0 (length taken))
  pub laid_out : IsLaidOut clocks dictionary batch [] blocks
