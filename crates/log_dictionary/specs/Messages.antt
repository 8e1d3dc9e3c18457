-- Messages, and the lines that spell them.
use Rattle.std.specs.Prelude.{◌≡◌, ℕ, ◌<◌, ◌^◌, List, [], ◌∷◌, ◌++◌, codes, decimal, All, Any, AllPairs, slice_get, Some, Bool, nat_eq}
use Rattle.std.specs.Ordering.{on, eq_of_both}
use Rattle.std.specs.Cmp.Lexicographic.{pointwise}
use Rattle.printf_grammar.specs.Spelling.{Spells}
use Rattle.log_dictionary.specs.declared.message.Message.{Message}
use Rattle.log_dictionary.specs.BinaryEntries.{entry_bytes, SpellsEntry}
use Rattle.log_dictionary.specs.Numbers.{natural_of}
use Rattle.log_dictionary.specs.Severities.{severity_name, severity_number}
use Rattle.log_dictionary.specs.Texts.{SpellsText}

-- two messages are equal: they stand at one place, with one severity and one format
pub record SameMessage (a b : Message) : Type 0 where
  pub file : a.file ≡ b.file
  pub line : a.line ≡ b.line
  pub severity : a.severity ≡ b.severity
  pub format : a.format.bytes ≡ b.format.bytes

-- the test for it
abbrev pub is_same : Message → Message → Bool
is_same =
    eq_of_both (on (λ m. m.line) nat_eq)
    (eq_of_both (on (λ m. severity_number m.severity) nat_eq)
    (eq_of_both (on (λ m. m.file) (pointwise nat_eq)) (on (λ m. m.format.bytes) (pointwise nat_eq))))

-- some of these messages equals the message
abbrev pub HasMessage : List Message → Message → Type 0
HasMessage messages message = Any (SameMessage message) messages

-- a message that equals the message has the id
abbrev pub HasId : List Message → Message → ℕ → Type 0
HasId messages message id = (other : Message) × (slice_get messages id ≡ Some other) × SameMessage message other

-- no two of these messages are equal
abbrev pub AreDistinct : List Message → Type 0
AreDistinct messages = AllPairs (λ a b. ¬ (SameMessage a b)) messages

-- each message has an entry: its line is in range, and the bytes of its format spell its pieces
abbrev pub AreFormed : List Message → Type 0
AreFormed messages = All (λ message. SpellsEntry (entry_bytes message) message) messages

-- the line is `message`, a number, a severity, a number and two texts in quotation marks, and these are the id, of any
-- size, and the parts of the message
pub record SpellsMessage (line : List ℕ) (id : ℕ) (message : Message) : Type 0 where
  pub digits : List ℕ
  pub name : List ℕ
  pub format : List ℕ
  pub spelled : line ≡ codes "message " ++ digits ++ 32 ∷ severity_name message.severity
      ++ 32 ∷ decimal message.line ++ codes " \"" ++ name ++ codes "\" \"" ++ format ++ 34 ∷ []
  pub numeral : natural_of digits ≡ Some id
  pub file : SpellsText name message.file
  pub bytes : SpellsText format message.format.bytes
  pub formed : Spells message.format.bytes message.format.pieces
  pub line_fits : message.line < 2 ^ 32
