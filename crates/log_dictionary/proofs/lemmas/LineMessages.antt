-- A message line spells one id and one message.
use Rattle.std.proofs.Common.{◌≡◌, ℕ, ◌<◌, List, length, Ok, Err, refl, sym, ap, subst, ◌∙◌}
use Rattle.printf_grammar.specs.Pieces.{Parsed}
use Rattle.printf_grammar.specs.declared.piece.Piece.{Piece}
use Rattle.printf_grammar.specs.Spelling.{Spells}
use Rattle.printf_grammar.proofs.lemmas.Unique.{spells_once}
use Rattle.log_dictionary.specs.declared.message.Message.{Message}
use Rattle.log_dictionary.specs.declared.dictionary.TheConstants.{MAX_MESSAGES}
use Rattle.log_dictionary.specs.declared.dictionary.LineFault.{LineFault}
use Rattle.log_dictionary.specs.declared.dictionary.LineFault.TheVariants.{TooMany, BadEntry, Order, NoMemory}
use Rattle.log_dictionary.specs.declared.dictionary.Added.TheVariants.{Old, New}
use Rattle.log_dictionary.specs.Messages.{SpellsMessage, HasMessage}
use Rattle.log_dictionary.specs.Additions.{IsAdded, SpellsNone, SpellsNoneNew, StopsMessage, ReadsLine}
use Rattle.log_dictionary.specs.MessageLines.{MessageLineFields, SpellsParts}
use Rattle.log_dictionary.proofs.lemmas.Distinct.{id_is_there}
use Rattle.log_dictionary.proofs.LineParts.{same_parts}
use Rattle.log_dictionary.proofs.lemmas.SameMessages.{same_message}

-- the id, and the parts of the message
abbrev pub parts_of : ℕ → Message → MessageLineFields
parts_of id message = record { id = id; severity = message.severity; number = message.line; file = message.file; format = message.format.bytes }

-- a line that spells a message spells its parts
pub parts_spelled : (line : List ℕ) (id : ℕ) (message : Message) → SpellsMessage line id message → SpellsParts line (parts_of id message)
parts_spelled line id message spells = record {
  digits = spells.digits;
  name = spells.name;
  text = spells.format;
  spelled = spells.spelled;
  numeral = spells.numeral;
  file_spelled = spells.file;
  format_spelled = spells.bytes;
  number_fits = spells.line_fits;
  named = message.file_length.0;
  short_name = message.file_length.1;
  short_format = spells.formed.short;
}

-- a line that spells the parts of a message spells it, if the pieces of its format are spelled
pub message_spelled : (line : List ℕ) (parts : MessageLineFields) (message : Message) → SpellsParts line parts → parts_of parts.id message ≡ parts → Spells message.format.bytes message.format.pieces → SpellsMessage line parts.id message
message_spelled line parts message spells same formed =
    let own = subst (SpellsParts line) (sym same) spells in
    record {
      digits = own.digits;
      name = own.name;
      format = own.text;
      spelled = own.spelled;
      numeral = own.numeral;
      file = own.file_spelled;
      bytes = own.format_spelled;
      formed = formed;
      line_fits = own.number_fits;
    }

abbrev format_of : List ℕ → List Piece → Parsed
format_of bytes pieces = record { bytes = bytes; pieces = pieces }

same_formats : (a b : Parsed) → a.bytes ≡ b.bytes → Spells a.bytes a.pieces → Spells b.bytes b.pieces → a ≡ b
same_formats a b bytes first second =
    let pieces = spells_once b.bytes a.pieces b.pieces (subst (λ (l : List ℕ). Spells l a.pieces) bytes first) second in
    ap (λ (l : List ℕ). format_of l a.pieces) bytes ∙ ap (format_of b.bytes) pieces

-- a line spells one id and one message
pub one_message : (line : List ℕ) (i j : ℕ) (a b : Message) → SpellsMessage line i a → SpellsMessage line j b → (i ≡ j) × (a ≡ b)
one_message line i j a b first second =
    let same = same_parts line (parts_of i a) (parts_of j b) (parts_spelled line i a first) (parts_spelled line j b second) in
    let format = same_formats a.format b.format (ap (λ (p : MessageLineFields). p.format) same) first.formed second.formed in (
      ap (λ (p : MessageLineFields). p.id) same,
      same_message a b (ap (λ (p : MessageLineFields). p.file) same) (ap (λ (p : MessageLineFields). p.number) same) (ap (λ (p : MessageLineFields). p.severity) same) format,
    )

-- where a line spells a message, the format that its parts hold is spelled
pub format_is_spelled : (line : List ℕ) (parts : MessageLineFields) → SpellsParts line parts → (id : ℕ) (message : Message) → SpellsMessage line id message → Spells parts.format message.format.pieces
format_is_spelled line parts spells id message spelled =
    let same = same_parts line (parts_of id message) parts (parts_spelled line id message spelled) spells in
    subst (λ (l : List ℕ). Spells l message.format.pieces) (ap (λ (p : MessageLineFields). p.format) same) spelled.formed

-- ---- what reading a line made of the messages

-- a line that spells no message spells none that is new
pub none_is_new : (before : List Message) (line : List ℕ) → SpellsNone line → SpellsNoneNew before line
none_is_new before line none = λ id message spells. absurd (none id message spells)

-- nor does one that spells a message that is there
pub old_is_not_new : (before : List Message) (line : List ℕ) (id : ℕ) (message : Message) → SpellsMessage line id message → HasMessage before message → SpellsNoneNew before line
old_is_not_new before line id message spells there = λ other_id other other_spells. subst (HasMessage before) (one_message line id other_id message other spells other_spells).1 there

-- a line that stopped without a message left the messages as they were
pub stopped : (before : List Message) (line : List ℕ) (fault : LineFault) → length before < MAX_MESSAGES → StopsMessage fault (SpellsNone line) → ReadsLine before line before (Err fault)
stopped before line TooMany few stops = absurd stops
stopped before line BadEntry few none = (few, none_is_new before line none, refl)
stopped before line Order few stops = absurd stops
stopped before line NoMemory few stops = (few, refl)

-- a message with the next id that was added: it is new, or the line is refused
pub added_next : (before : List Message) (line : List ℕ) (message : Message) (id : ℕ) (after : List Message) → length before < MAX_MESSAGES → SpellsMessage line (length before) message → IsAdded before message after (New id) → ReadsLine before line after (Ok tt)
added_next before line message id after few spells added = (message, record { spelled = spells; new = added.0 }, few, added.2)

pub added_old : (before : List Message) (line : List ℕ) (message : Message) (id : ℕ) (after : List Message) → length before < MAX_MESSAGES → SpellsMessage line (length before) message → IsAdded before message after (Old id) → ReadsLine before line after (Err BadEntry)
added_old before line message id after few spells added = (few, old_is_not_new before line (length before) message spells (id_is_there before message id added.0), added.1)
