-- What is said of a block that is read from a source.
use Rattle.std.specs.Prelude.{◌≡◌, ◌⊎◌, ℕ, ◌<◌, ◌≤◌, List, [], ◌∷◌, ◌++◌, length, Option, Some, None, ⊤}
use Rattle.nl_io.specs.Content.{Told, IsAtEnd}
use Rattle.log_dictionary.specs.declared.clocks.TheConstants.{MAX_CLOCKS}
use Rattle.log_dictionary.specs.declared.message.Message.{Message}
use Rattle.log_dictionary.specs.Clocks.{last_tick}
use Rattle.nibble_pack.specs.Parsing.{Parse}
use Rattle.arg_records.specs.declared.call.Call.{Call}
use Rattle.arg_records.specs.Calls.{last_stamp}
use Rattle.buffer_extent.specs.Bodies.{IsBody}
use Rattle.checkpoint_io.specs.declared.header.Header.{Header}
use Rattle.checkpoint_io.specs.declared.writers.WriterState.{WriterState}
use Rattle.checkpoint_io.specs.declared.block.Block.{Block as ReadBlock}
use Rattle.checkpoint_io.specs.declared.block.Block.TheVariants as read
use Rattle.checkpoint_io.specs.Blocks.{Block, Fragment, Extent, NewClock, Close, messages_of, FileOf}
use Rattle.checkpoint_io.specs.declared.cause.Cause.{Cause}
use Rattle.checkpoint_io.specs.declared.cause.Cause.TheVariants as causes
use Rattle.checkpoint_io.specs.declared.heads.TheConstants.{MAX_LOG}
use Rattle.checkpoint_io.specs.Reading.{extent_at, close_at, block_at}
use Rattle.checkpoint_io.specs.Fronts.{BeginsWithLog, Break}
use Rattle.checkpoint_io.specs.Places.{LogPlace, with_front, StandsBetween}
use Rattle.checkpoint_io.specs.Writers.{AreStatesOf}
use Rattle.checkpoint_io.specs.Times.{TimeState, with_clock, AreTimesOf}
use Rattle.checkpoint_io.specs.Readers.{ReaderState, StandsFor}

-- the rest of the writer's close mark stands between the two places, and what is kept is that behind it
pub record TakesClose (header : Header) (before : List Block) (writer : ℕ) (after : List WriterState)
    (from to : LogPlace) : Type 0 where
  pub takes : StandsBetween (close_at header before) (Close writer) from to
  pub states : AreStatesOf after header (before ++ Close writer ∷ [])

-- A body stands between the two places as it is read, and this is it. It has a record, and the stamp is that of the last
-- one, whatever stands in front of it.
pub record TakesBody (read : List ℕ → Parse Cause (List Call)) (messages : List Message) (tick last stamp : ℕ)
    (kept_body : List ℕ) (from to : LogPlace) : Type 0 where
  pub records : List Call
  pub takes : StandsBetween read records from to
  pub body : IsBody messages tick last records kept_body
  pub ends : (least : ℕ) → stamp ≡ last_stamp least records

-- The rest of the writer's extent stands between the two places, and what is kept is that behind it, and its body. It
-- has a record, and the stamp is that of the last one.
pub record TakesExtent (header : Header) (before : List Block) (messages : List Message) (writer stamp : ℕ)
    (kept_body : List ℕ) (after : List WriterState) (from to : LogPlace) : Type 0 where
  pub records : List Call
  pub takes : StandsBetween (extent_at header before) (Extent writer records) from to
  pub last : ℕ
  pub body : IsBody messages header.clock.tick last records kept_body
  pub ends : (least : ℕ) → stamp ≡ last_stamp least records
  pub states : AreStatesOf after header (before ++ Extent writer records ∷ [])

-- what is told of a block that was read
abbrev pub Describes : ReadBlock → Block → Type 0
Describes told (Fragment first messages) = told ≡ read.Fragment first (length messages)
Describes told (Extent writer records) = told ≡ read.Extent writer
Describes told (NewClock clock) = told ≡ read.Clock clock
Describes told (Close writer) = told ≡ read.Closed writer

-- where the block is an extent, these are its body: records that are whole and keep the rules, of these messages
abbrev pub HasBody : ℕ → List Message → Block → List ℕ → Type 0
HasBody tick messages (Fragment first defined) body = ⊤
HasBody tick messages (Extent writer records) body = (last : ℕ) × IsBody messages tick last records body
HasBody tick messages (NewClock clock) body = ⊤
HasBody tick messages (Close writer) body = ⊤

-- what is kept of clocks and stamps once a clock that was read counts
abbrev pub times_behind : ReadBlock → TimeState → TimeState
times_behind (read.Fragment first count) times = times
times_behind (read.Extent writer) times = times
times_behind (read.Clock clock) times = with_clock clock times
times_behind (read.Closed writer) times = times

-- a clock that was read may follow the others
abbrev pub MayCount : ReadBlock → TimeState → Type 0
MayCount (read.Fragment first count) times = ⊤
MayCount (read.Extent writer) times = ⊤
MayCount (read.Clock clock) times =
    (length times.clocks < MAX_CLOCKS) × (last_tick times.clocks < clock.tick) × (1 ≤ clock.rate)
MayCount (read.Closed writer) times = ⊤

-- The block stands between the two places, and what is kept is that behind it, but for a clock, which doesn't count
-- yet. The body of an extent is kept too.
pub record TakesBlock (header : Header) (before : List Block) (told : ReadBlock) (messages : List Message)
    (after : List WriterState) (times : TimeState) (kept_body : List ℕ) (from to : LogPlace) : Type 0 where
  pub block : Block
  pub tells : Describes told block
  pub body : HasBody header.clock.tick messages block kept_body
  pub takes : StandsBetween (block_at header before) block from to
  pub defined : messages ≡ messages_of (before ++ block ∷ [])
  pub states : AreStatesOf after header (before ++ block ∷ [])
  pub times_are : AreTimesOf (times_behind told times) header (before ++ block ∷ [])

-- ---- the reader

-- Behind what the reader stood for stands this block, and now the reader stands for it too. It has the body of an
-- extent.
pub record TakesNext (old new : ReaderState) (taken : List ℕ) (before : StandsFor old taken) (told : ReadBlock)
    (left behind : Told) : Type 0 where
  pub block : Block
  pub tells : Describes told block
  pub body : HasBody new.header.clock.tick new.messages block new.body
  pub front : List ℕ
  pub joined : with_front old.waiting.bytes left ≡ with_front (front ++ new.waiting.bytes) behind
  pub stands : StandsFor new (taken ++ front)
  pub blocks : stands.blocks ≡ before.blocks ++ block ∷ []

-- Nothing stands behind what the reader stood for, and it stands for the same.
pub record EndsThere (old new : ReaderState) (taken : List ℕ) (before : StandsFor old taken)
    (left behind : Told) : Type 0 where
  pub ended : IsAtEnd (with_front old.waiting.bytes left)
  pub joined : with_front old.waiting.bytes left ≡ with_front new.waiting.bytes behind
  pub stands : StandsFor new taken
  pub blocks : stands.blocks ≡ before.blocks

-- the next block, or that there is none
abbrev pub AnswersNext : (old new : ReaderState) (taken : List ℕ) → StandsFor old taken → Option ReadBlock → Told
    → Told → Type 0
AnswersNext old new taken before (Some told) left behind = TakesNext old new taken before told left behind
AnswersNext old new taken before None left behind = EndsThere old new taken before left behind

-- the bytes in front of the offset are a log, and a right block begins there, which ends past the most bytes that are
-- read
pub record IsTooLarge (bytes : List ℕ) (offset : ℕ) : Type 0 where
  pub header : Header
  pub blocks : List Block
  pub block : Block
  pub front : List ℕ
  pub rest : List ℕ
  pub joined : bytes ≡ front ++ rest
  pub file : FileOf header blocks front
  pub ends : offset ≡ length front
  pub count : ℕ
  pub begins : BeginsWithLog bytes header (blocks ++ block ∷ []) count
  pub large : MAX_LOG < count

-- the file breaks at this offset, or the block there ends past the most bytes that are read
abbrev pub StopsAt : List ℕ → ℕ → Cause → Type 0
StopsAt bytes offset cause = Break bytes offset cause ⊎ ((cause ≡ causes.TooLarge) × IsTooLarge bytes offset)
