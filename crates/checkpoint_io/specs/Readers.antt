-- What a reader of a log keeps, and the bytes for which it stands.
use Rattle.std.specs.Prelude.{◌≡◌, ℕ, ◌≤◌, Bool, List, length}
use Rattle.log_dictionary.specs.declared.message.Message.{Message}
use Rattle.checkpoint_io.specs.declared.header.Header.{Header}
use Rattle.checkpoint_io.specs.declared.writers.WriterState.{WriterState}
use Rattle.checkpoint_io.specs.Blocks.{Block, messages_of, FileOf}
use Rattle.checkpoint_io.specs.Validity.{Valid}
use Rattle.checkpoint_io.specs.declared.heads.TheConstants.{MAX_LOG}
use Rattle.checkpoint_io.specs.Places.{UnreadBytes}
use Rattle.checkpoint_io.specs.Writers.{AreStatesOf}
use Rattle.checkpoint_io.specs.Times.{TimeState, AreTimesOf}

pub record ReaderState : Type 0 where
  pub header : Header
  -- the messages that were defined so far
  pub messages : List Message
  pub writers : List WriterState
  pub times : TimeState
  -- bytes that came from the source and weren't read yet
  pub waiting : UnreadBytes
  -- the body of the extent that was read last
  pub body : List ℕ
  -- where the next block begins, or the one that failed
  pub offset : ℕ
  pub failed : Bool

-- These bytes were read: they are the header and right blocks, which give what the reader keeps.
pub record StandsFor (reader : ReaderState) (taken : List ℕ) : Type 0 where
  pub blocks : List Block
  pub file : FileOf reader.header blocks taken
  pub valid : Valid reader.header blocks
  pub messages : reader.messages ≡ messages_of blocks
  pub states : AreStatesOf reader.writers reader.header blocks
  pub times : AreTimesOf reader.times reader.header blocks
  pub offset : reader.offset ≡ length taken
  pub at : reader.waiting.offset ≡ length taken
  pub within : length taken ≤ MAX_LOG
