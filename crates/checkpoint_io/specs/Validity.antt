-- The rules that the blocks of a log file keep.
use Rattle.std.specs.Prelude.{◌≡◌, ℕ, ◌<◌, ◌≤◌, ◌^◌, Bool, true, false, ◌==◌, if◌then◌else◌, List, [], ◌∷◌, ◌++◌, length}
use Rattle.std.specs.List.{AllByRecursion, flat_map, list_any}
use Rattle.log_dictionary.specs.declared.clock.Clock.{Clock}
use Rattle.log_dictionary.specs.declared.clocks.TheConstants.{MAX_CLOCKS}
use Rattle.log_dictionary.specs.declared.message.Message.{Message}
use Rattle.log_dictionary.specs.Clocks.{last_tick}
use Rattle.log_dictionary.specs.Messages.{AreDistinct}
use Rattle.arg_records.specs.declared.call.Call.{Call}
use Rattle.arg_records.specs.Calls.{IsCall, NeverFalls}
pub use Rattle.arg_records.specs.Calls.{last_stamp}
use Rattle.log_dictionary.specs.declared.dictionary.TheConstants.{MAX_MESSAGES}
use Rattle.checkpoint_io.specs.Versions.{is_known, most_writers}
use Rattle.checkpoint_io.specs.declared.header.Header.{Header}
use Rattle.checkpoint_io.specs.Blocks.{Block, Fragment, Extent, NewClock, Close, messages_of, clocks_of, all_records}

-- the records of a writer in a block
abbrev pub block_records : ℕ → Block → List Call
block_records writer (Fragment first messages) = []
block_records writer (Extent w records) = if w == writer then records else []
block_records writer (NewClock clock) = []
block_records writer (Close w) = []

-- the records of a writer's extents, joined
abbrev pub records_of : ℕ → List Block → List Call
records_of writer blocks = flat_map (block_records writer) blocks

-- the block is the close mark of the writer
abbrev pub closes : ℕ → Block → Bool
closes writer (Fragment first messages) = false
closes writer (Extent w records) = false
closes writer (NewClock clock) = false
closes writer (Close w) = w == writer

-- a close mark of the writer stands among the blocks
abbrev pub IsClosed : ℕ → List Block → Type 0
IsClosed writer blocks = list_any (closes writer) blocks ≡ true

-- the block is an extent or the close mark of the writer
abbrev pub IsOf : ℕ → Block → Type 0
IsOf writer (Fragment first messages) = ⊥
IsOf writer (Extent w records) = w ≡ writer
IsOf writer (NewClock clock) = ⊥
IsOf writer (Close w) = w ≡ writer

-- the writer may still write: it is one of the log's, and no close mark of it stands before
pub record MayStillWrite (header : Header) (before : List Block) (writer : ℕ) : Type 0 where
  pub known : writer < header.writers
  pub unclosed : ¬ (IsClosed writer before)

-- the messages are defined with the next ids, and none of them equals another or one before
pub record DefinesNext (before : List Block) (first : ℕ) (messages : List Message) : Type 0 where
  pub next : first ≡ length (messages_of before)
  pub distinct : AreDistinct (messages_of before ++ messages)
  pub few : length (messages_of before ++ messages) ≤ MAX_MESSAGES

-- The records are those of a writer that may still write. Each names a message that was defined before, and no stamp
-- falls.
pub record ContinuesWriter (header : Header) (before : List Block) (writer : ℕ) (records : List Call) : Type 0 where
  pub writer_open : MayStillWrite header before writer
  pub right : AllByRecursion (IsCall (messages_of before)) records
  pub rising : NeverFalls (last_stamp header.clock.tick (records_of writer before)) records

-- The clock counts from a tick that no record before it has reached, behind that of the clock before, and there are no
-- more clocks than a run has.
pub record ContinuesClocks (header : Header) (before : List Block) (clock : Clock) : Type 0 where
  pub few : length (clocks_of header before) < MAX_CLOCKS
  pub rising : last_tick (clocks_of header before) < clock.tick
  pub early : AllByRecursion (λ call. call.stamp < clock.tick) (all_records before)
  pub rate : 1 ≤ clock.rate

-- the block keeps the rules behind the blocks before it
abbrev pub IsRightAfter : Header → List Block → Block → Type 0
IsRightAfter header before (Fragment first messages) = DefinesNext before first messages
IsRightAfter header before (Extent writer records) = ContinuesWriter header before writer records
IsRightAfter header before (NewClock clock) = ContinuesClocks header before clock
IsRightAfter header before (Close writer) = MayStillWrite header before writer

-- each of the blocks keeps the rules behind those before it
abbrev pub AreRightAfter : Header → List Block → List Block → Type 0
AreRightAfter header before [] = Unit {0}
AreRightAfter header before (block ∷ blocks) =
    IsRightAfter header before block × AreRightAfter header (before ++ block ∷ []) blocks

-- the version is known, there is a writer, there are no more than the version allows, the clock's numbers are below
-- 2^64, and it ticks
pub record IsHeader (header : Header) : Type 0 where
  pub version_known : is_known header.version ≡ true
  pub some_writer : 1 ≤ header.writers
  pub few_writers : header.writers ≤ most_writers header.version
  pub tick_fits : header.clock.tick < 2 ^ 64
  pub nanos_fits : header.clock.nanos < 2 ^ 64
  pub rate_fits : header.clock.rate < 2 ^ 64
  pub rate : 1 ≤ header.clock.rate

-- Fragments define ids from 0 without gaps and without equal messages. Each record names a message that is defined
-- before it, and its arguments fit. Nothing of a writer follows its close mark, its stamps never fall, and none is
-- below the header's tick. The ticks of the clocks rise, and no record in front of a clock has reached its tick.
pub record Valid (header : Header) (blocks : List Block) : Type 0 where
  pub header_right : IsHeader header
  pub blocks_right : AreRightAfter header [] blocks
