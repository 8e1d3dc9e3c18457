-- Messages that are added.
use Rattle.std.specs.Prelude.{◌≡◌, ◌≢◌, ◌<◌, ℕ, List, [], ◌∷◌, ◌++◌, length, Result, Ok, Err}
use Rattle.log_dictionary.specs.declared.message.Message.{Message}
use Rattle.log_dictionary.specs.declared.dictionary.TheConstants.{MAX_MESSAGES}
use Rattle.log_dictionary.specs.declared.dictionary.LineFault.{LineFault}
use Rattle.log_dictionary.specs.declared.dictionary.LineFault.TheVariants.{TooMany, BadEntry, Order, NoMemory}
use Rattle.log_dictionary.specs.declared.dictionary.Added.{Added}
use Rattle.log_dictionary.specs.declared.dictionary.Added.TheVariants.{Old, New}
use Rattle.log_dictionary.specs.Messages.{HasMessage, HasId, SpellsMessage}

-- the message was there and has this id, or it is new and was appended
abbrev pub IsAdded : List Message → Message → List Message → Added → Type 0
IsAdded before message after (Old id) = HasId before message id × (after ≡ before)
IsAdded before message after (New id) =
    (¬ (HasMessage before message)) × (id ≡ length before) × (after ≡ before ++ message ∷ [])

-- the line spells a message that isn't among these
pub record SpellsNew (messages : List Message) (line : List ℕ) (id : ℕ) (message : Message) : Type 0 where
  pub spelled : SpellsMessage line id message
  pub new : ¬ (HasMessage messages message)

-- the line spells no message
abbrev pub SpellsNone : List ℕ → Type 0
SpellsNone line = (id : ℕ) (message : Message) → ¬ (SpellsMessage line id message)

-- why a line gave no message: it spells none, or memory ran out
abbrev pub StopsMessage : LineFault → Type 0 → Type 0
StopsMessage TooMany none = ⊥
StopsMessage BadEntry none = none
StopsMessage Order none = ⊥
StopsMessage NoMemory none = Unit {0}

-- the line spells no message, or one that is among these
abbrev pub SpellsNoneNew : List Message → List ℕ → Type 0
SpellsNoneNew messages line = (id : ℕ) (message : Message) → SpellsMessage line id message → HasMessage messages message

-- the line spells a new message with another id than the next one
abbrev pub SpellsOutOfOrder : List Message → List ℕ → Type 0
SpellsOutOfOrder messages line =
    (id : ℕ) × (message : Message) × SpellsNew messages line id message × (id ≢ length messages)

-- what reading a message line made of the messages: it spells a new one with the next id, which goes last, or they stay
-- as they are, since they are full, the line spells none that is new, its id isn't the next one, or memory ran out; the
-- first of these causes counts
abbrev pub ReadsLine : List Message → List ℕ → List Message → Result (Unit {0}) LineFault → Type 0
ReadsLine before line after (Ok _) =
    (message : Message) × SpellsNew before line (length before) message × (length before < MAX_MESSAGES)
    × (after ≡ before ++ message ∷ [])
ReadsLine before line after (Err TooMany) = (length before ≡ MAX_MESSAGES) × (after ≡ before)
ReadsLine before line after (Err BadEntry) =
    (length before < MAX_MESSAGES) × SpellsNoneNew before line × (after ≡ before)
ReadsLine before line after (Err Order) =
    (length before < MAX_MESSAGES) × SpellsOutOfOrder before line × (after ≡ before)
ReadsLine before line after (Err NoMemory) = (length before < MAX_MESSAGES) × (after ≡ before)
