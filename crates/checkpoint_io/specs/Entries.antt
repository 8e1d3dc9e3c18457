-- What is said of the messages of a fragment that is read from a source.
use Rattle.std.specs.Prelude.{◌≡◌, ℕ, List, [], ◌∷◌, ◌++◌, length}
use Rattle.log_dictionary.specs.declared.message.Message.{Message}
use Rattle.checkpoint_io.specs.Blocks.{Fragment}
use Rattle.checkpoint_io.specs.declared.block.Block.{Block as ReadBlock}
use Rattle.checkpoint_io.specs.declared.block.Block.TheVariants as read
use Rattle.checkpoint_io.specs.Reading.{new_message_at, new_messages_at, fragment_at}
use Rattle.checkpoint_io.specs.Places.{LogPlace, StandsBetween}

-- a new message stands between the two places, and was added
pub record TakesMessage (before after : List Message) (from to : LogPlace) : Type 0 where
  pub message : Message
  pub added : after ≡ before ++ message ∷ []
  pub takes : StandsBetween (new_message_at before) message from to

-- so many new messages stand between the two places, and were added
pub record TakesMessages (before : List Message) (count : ℕ) (after : List Message) (from to : LogPlace) : Type 0 where
  pub messages : List Message
  pub many : length messages ≡ count
  pub added : after ≡ before ++ messages
  pub takes : StandsBetween (new_messages_at before count) messages from to

-- a fragment stands between the two places, whose messages were added
pub record TakesFragment (before : List Message) (block : ReadBlock) (after : List Message)
    (from to : LogPlace) : Type 0 where
  pub first : ℕ
  pub messages : List Message
  pub is : block ≡ read.Fragment first (length messages)
  pub added : after ≡ before ++ messages
  pub takes : StandsBetween (fragment_at before) (Fragment first messages) from to
