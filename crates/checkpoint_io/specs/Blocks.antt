-- What a log file is made of, and the bytes that spell it.
use Rattle.std.specs.Prelude.{◌≡◌, ℕ, ◌<◌, ◌≤◌, ◌^◌, true, List, [], ◌∷◌, ◌++◌, length, codes}
use Rattle.std.specs.List.{flat_map}
use Rattle.std.specs.Hash.{le_bytes}
use Rattle.log_dictionary.specs.declared.clock.Clock.{Clock}
use Rattle.log_dictionary.specs.declared.message.Message.{Message}
use Rattle.log_dictionary.specs.BinaryEntries.{SpellsEntry}
use Rattle.arg_records.specs.declared.call.Call.{Call}
use Rattle.buffer_extent.specs.Bodies.{SpellsRecords}
use Rattle.checkpoint_io.specs.declared.header.Header.{Header}
use Rattle.checkpoint_io.specs.declared.heads.TheConstants.{MAX_FRAGMENT_MESSAGES}
use Rattle.checkpoint_io.specs.Versions.{has_clocks, writer_len, most_body}

-- a block: messages with ids that count from the first one, records of a writer, a clock that counts from its tick on,
-- or the mark that closes a writer
pub data Block : Type 0 where
  Fragment : (first : ℕ) (messages : List Message) → Block
  Extent : (writer : ℕ) (records : List Call) → Block
  NewClock : (clock : Clock) → Block
  Close : (writer : ℕ) → Block

-- the block tells what records behind it go by: messages, or a clock
abbrev pub IsPreface : Block → Type 0
IsPreface (Fragment first messages) = Unit {0}
IsPreface (Extent writer records) = ⊥
IsPreface (NewClock clock) = Unit {0}
IsPreface (Close writer) = ⊥

-- ---- what blocks say together

abbrev pub block_messages : Block → List Message
block_messages (Fragment first messages) = messages
block_messages (Extent writer records) = []
block_messages (NewClock clock) = []
block_messages (Close writer) = []

-- the messages that blocks define, in the order of their ids
abbrev pub messages_of : List Block → List Message
messages_of blocks = flat_map block_messages blocks

abbrev pub block_clocks : Block → List Clock
block_clocks (Fragment first messages) = []
block_clocks (Extent writer records) = []
block_clocks (NewClock clock) = clock ∷ []
block_clocks (Close writer) = []

-- the clocks of blocks, in their order
abbrev pub clocks_in : List Block → List Clock
clocks_in blocks = flat_map block_clocks blocks

-- the clocks of a log: that of its header, and those of its blocks
abbrev pub clocks_of : Header → List Block → List Clock
clocks_of header blocks = header.clock ∷ clocks_in blocks

abbrev pub block_calls : Block → List Call
block_calls (Fragment first messages) = []
block_calls (Extent writer records) = records
block_calls (NewClock clock) = []
block_calls (Close writer) = []

-- the records of blocks, whoever wrote them, in the order of the blocks
abbrev pub all_records : List Block → List Call
all_records blocks = flat_map block_calls blocks

-- ---- spellings

-- a writer, or a number of writers; numbers stand with the low byte first
abbrev pub writer_bytes : ℕ → ℕ → List ℕ
writer_bytes version writer = le_bytes (writer_len version) writer

-- `NLOG`, the version, the number of writers, and the clock
abbrev pub header_bytes : Header → List ℕ
header_bytes header =
    codes "NLOG" ++ header.version ∷ writer_bytes header.version header.writers ++ le_bytes 8 header.clock.tick
    ++ le_bytes 8 header.clock.nanos ++ le_bytes 8 header.clock.rate

-- in front of the entries: the tag 1, the first id and the number of messages
abbrev pub fragment_head_bytes : ℕ → ℕ → List ℕ
fragment_head_bytes first count = 1 ∷ le_bytes 4 first ++ le_bytes 2 count

-- in front of a body: the tag 2, the writer and the length of the body
abbrev pub extent_head_bytes : ℕ → ℕ → ℕ → List ℕ
extent_head_bytes version writer len = 2 ∷ writer_bytes version writer ++ le_bytes 4 len

-- a whole clock: the tag 3, the tick, the nanoseconds and the rate
abbrev pub clock_bytes : Clock → List ℕ
clock_bytes clock = 3 ∷ le_bytes 8 clock.tick ++ le_bytes 8 clock.nanos ++ le_bytes 8 clock.rate

-- the whole mark: the tag 4 and the writer
abbrev pub close_bytes : ℕ → ℕ → List ℕ
close_bytes version writer = 4 ∷ writer_bytes version writer

-- the bytes are the entries of the messages, joined
abbrev pub SpellsEntries : List Message → List ℕ → Type 0
SpellsEntries [] bytes = bytes ≡ []
SpellsEntries (message ∷ messages) bytes =
    (front : List ℕ) × (back : List ℕ) × (bytes ≡ front ++ back) × SpellsEntry front message
    × SpellsEntries messages back

-- the head, and the entries of the messages, of which there are 1 to 16
pub record SpellsFragment (first : ℕ) (messages : List Message) (bytes : List ℕ) : Type 0 where
  pub entries : List ℕ
  pub some : 1 ≤ length messages
  pub few : length messages ≤ MAX_FRAGMENT_MESSAGES
  pub first_fits : first < 2 ^ 32
  pub entries_spelled : SpellsEntries messages entries
  pub joined : bytes ≡ fragment_head_bytes first (length messages) ++ entries

-- the head, and a body of at least a byte, within the version's limit, which is the records' spellings, joined; the
-- first step counts from the tick
pub record SpellsExtent (messages : List Message) (header : Header) (writer : ℕ) (records : List Call)
    (bytes : List ℕ) : Type 0 where
  pub body : List ℕ
  pub some : 1 ≤ length body
  pub short : length body ≤ most_body header.version
  pub writer_fits : writer < 256 ^ writer_len header.version
  pub body_spelled : SpellsRecords messages header.clock.tick records body
  pub joined : bytes ≡ extent_head_bytes header.version writer (length body) ++ body

-- the clock, in a version that has them
pub record SpellsClock (header : Header) (clock : Clock) (bytes : List ℕ) : Type 0 where
  pub version_has : has_clocks header.version ≡ true
  pub tick_fits : clock.tick < 2 ^ 64
  pub nanos_fits : clock.nanos < 2 ^ 64
  pub rate_fits : clock.rate < 2 ^ 64
  pub joined : bytes ≡ clock_bytes clock

-- the mark
pub record SpellsClose (header : Header) (writer : ℕ) (bytes : List ℕ) : Type 0 where
  pub writer_fits : writer < 256 ^ writer_len header.version
  pub joined : bytes ≡ close_bytes header.version writer

-- the bytes spell the block, in a log of this header, behind blocks that define these messages
abbrev pub SpellsBlock : List Message → Header → Block → List ℕ → Type 0
SpellsBlock messages header (Fragment first added) bytes = SpellsFragment first added bytes
SpellsBlock messages header (Extent writer records) bytes = SpellsExtent messages header writer records bytes
SpellsBlock messages header (NewClock clock) bytes = SpellsClock header clock bytes
SpellsBlock messages header (Close writer) bytes = SpellsClose header writer bytes

-- the bytes are the spellings of the blocks, joined, behind other blocks
abbrev pub SpellsBlocks : Header → List Block → List Block → List ℕ → Type 0
SpellsBlocks header before [] bytes = bytes ≡ []
SpellsBlocks header before (block ∷ blocks) bytes =
    (front : List ℕ) × (back : List ℕ) × (bytes ≡ front ++ back)
    × SpellsBlock (messages_of before) header block front × SpellsBlocks header (before ++ block ∷ []) blocks back

-- the bytes are the spellings of the header and of the blocks, joined
pub record FileOf (header : Header) (blocks : List Block) (bytes : List ℕ) : Type 0 where
  pub block_bytes : List ℕ
  pub spelled : SpellsBlocks header [] blocks block_bytes
  pub joined : bytes ≡ header_bytes header ++ block_bytes
