-- The parts of a message line, from left to right.
use Rattle.std.specs.Prelude.{◌≡◌, ℕ, ◌<◌, ◌≤◌, ◌^◌, List, [], ◌∷◌, ◌++◌, length, codes, decimal, Option, None, Some, ◌==◌, if◌then◌else◌}
use Rattle.printf_grammar.specs.declared.limits.TheConstants.{MAX_FORMAT}
use Rattle.log_dictionary.specs.declared.message.TheConstants.{MAX_FILE_NAME}
use Rattle.log_dictionary.specs.declared.message_line.Fields.{Fields}
use Rattle.log_dictionary.specs.declared.message_line.MessageLine.{MessageLine}
use Rattle.log_dictionary.specs.declared.severity.Severity.{Severity}
use Rattle.log_dictionary.specs.Numbers.{natural_of}
use Rattle.log_dictionary.specs.Severities.{severity_name}
use Rattle.log_dictionary.specs.Texts.{SpellsText, text_at}
use Rattle.log_dictionary.specs.Fields.{◌>>=◌, split_at_first, after}

-- ---- parts as they are spelled

-- three fields as they are spelled, and what two texts stand for
pub record SpelledParts : Type 0 where
  pub id : List ℕ
  pub severity : List ℕ
  pub number : List ℕ
  pub file : List ℕ
  pub format : List ℕ

-- the fields without where they lie in memory
abbrev pub spelled_parts : Fields → SpelledParts
spelled_parts fields =
    record {
      id = fields.id.now;
      severity = fields.severity.now;
      number = fields.number.now;
      file = fields.file;
      format = fields.format;
    }

-- the parts of a line that is `message`, three fields and two texts
unfoldable pub parts_at : List ℕ → Option SpelledParts
parts_at line = do
  fields ← after (codes "message ") line
  id ← split_at_first 32 fields
  severity ← split_at_first 32 id.1
  number ← split_at_first 32 severity.1
  file ← text_at number.1
  second ← after (codes " ") file.1
  format ← text_at second
  if length format.1 == 0
      then Some (record { id = id.0; severity = severity.0; number = number.0; file = file.0; format = format.0 })
      else None

-- ---- parts

-- what a message line says: an id, and the parts of a message
pub record MessageLineFields : Type 0 where
  pub id : ℕ
  pub severity : Severity
  pub number : ℕ
  pub file : List ℕ
  pub format : List ℕ

-- the same with this id, and without what its texts lie in
abbrev pub message_line_fields : ℕ → MessageLine → MessageLineFields
message_line_fields id line =
    record { id = id; severity = line.severity; number = line.line; file = line.file; format = line.format }

-- the line spells these parts, and each but the id, which has any size, is within its limits; what the format spells
-- isn't judged
pub record SpellsParts (line : List ℕ) (parts : MessageLineFields) : Type 0 where
  pub digits : List ℕ
  pub name : List ℕ
  pub text : List ℕ
  pub spelled : line ≡ codes "message " ++ digits ++ 32 ∷ severity_name parts.severity
      ++ 32 ∷ decimal parts.number ++ codes " \"" ++ name ++ codes "\" \"" ++ text ++ 34 ∷ []
  pub numeral : natural_of digits ≡ Some parts.id
  pub file_spelled : SpellsText name parts.file
  pub format_spelled : SpellsText text parts.format
  pub number_fits : parts.number < 2 ^ 32
  pub named : 1 ≤ length parts.file
  pub short_name : length parts.file ≤ MAX_FILE_NAME
  pub short_format : length parts.format ≤ MAX_FORMAT

-- the line is a message line but for what its format spells
abbrev pub IsMessageLine : List ℕ → Type 0
IsMessageLine line = (parts : MessageLineFields) × SpellsParts line parts
