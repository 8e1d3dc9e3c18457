-- Where messages are found by their keys.
use Rattle.std.specs.Prelude.{◌≡◌, ℕ, ◌<◌, ◌≤◌, Bool, List, length, Option, Some, None, MatchOption, IsSome, position, All, nat_eq}
use Rattle.std.specs.Ordering.{on, eq_of_both}
use Rattle.std.specs.Hash.DefaultHasher as sip
use Rattle.log_dictionary.specs.declared.message.Message.{Message}
use Rattle.log_dictionary.specs.declared.message_set.Key.{Key}
use Rattle.log_dictionary.specs.BinaryEntries.{entry_bytes}
use Rattle.log_dictionary.specs.Messages.{HasMessage, HasId}

-- no message is there that equals this one, or this is the id of one
abbrev pub IsPlace : List Message → Message → Option ℕ → Type 0
IsPlace messages message place = MatchOption place (¬ (HasMessage messages message)) (HasId messages message)

-- the hash of the message's entry
unfoldable pub hash_of : Message → ℕ
hash_of message = sip.finish (sip.write sip.initial (entry_bytes message))

-- the key of the message, where this many messages with its hash came before it
abbrev pub key_of : Message → ℕ → Key
key_of message nth = record { hash = hash_of message; nth = nth }

-- two keys are equal
abbrev pub same_key : Key → Key → Bool
same_key = eq_of_both (on (λ key. key.hash) nat_eq) (on (λ key. key.nth) nat_eq)

-- the place of the key
abbrev pub place_of : List Key → Key → Option ℕ
place_of keys key = position (same_key key) keys

-- each of the first keys of the message is there
abbrev pub HasFirst : List Key → Message → ℕ → Type 0
HasFirst keys message count = (nth : ℕ) → nth < count → IsSome (place_of keys (key_of message nth))

-- one of the message's keys leads to a message that equals it, and all its keys before that are there
abbrev pub LeadsTo : List Key → List Message → Message → Type 0
LeadsTo keys messages message =
    (nth : ℕ) × (place : ℕ) × (place_of keys (key_of message nth) ≡ Some place) × HasId messages message place
    × HasFirst keys message nth

-- the keys lead to each message that is there, and none of them counts more messages than there are
pub record AreKeys (keys : List Key) (messages : List Message) : Type 0 where
  pub counts : All (λ key. key.nth < length messages) keys
  pub found : (message : Message) → HasMessage messages message → LeadsTo keys messages message

-- each of the first keys of the message leads to a message that doesn't equal it
abbrev pub LeadElsewhere : List Key → List Message → Message → ℕ → Type 0
LeadElsewhere keys messages message count =
    (nth : ℕ) → nth < count
    → (place : ℕ) × (place_of keys (key_of message nth) ≡ Some place) × ¬ (HasId messages message place)

-- the key is the message's and isn't there, and all the message's keys before it are
pub record IsFreeKey (keys : List Key) (message : Message) (key : Key) : Type 0 where
  pub own : key ≡ key_of message key.nth
  pub absent : place_of keys key ≡ None
  pub count : key.nth ≤ length keys
  pub first : HasFirst keys message key.nth
