-- Messages as entries of a log: which bytes spell them.
use Rattle.std.specs.Prelude.{◌≡◌, ℕ, ◌<◌, ◌≤◌, ◌^◌, List, ◌∷◌, ◌++◌, length}
use Rattle.std.specs.Hash.{le_bytes}
use Rattle.printf_grammar.specs.declared.limits.TheConstants.{MAX_FORMAT}
use Rattle.printf_grammar.specs.Spelling.{Spells}
use Rattle.log_dictionary.specs.declared.message.TheConstants.{MAX_FILE_NAME}
use Rattle.log_dictionary.specs.declared.message.Message.{Message}
use Rattle.log_dictionary.specs.declared.severity.Severity.{Severity}
use Rattle.log_dictionary.specs.Severities.{severity_number}

-- ---- entries

-- what an entry says, before its format is read
pub record RawEntry : Type 0 where
  pub severity : Severity
  pub line : ℕ
  pub file : List ℕ
  pub format : List ℕ

-- the severity and the line; numbers stand with the low byte first
abbrev pub entry_head_bytes : Severity → ℕ → List ℕ
entry_head_bytes severity line = severity_number severity ∷ le_bytes 4 line

-- a text with its length in front
abbrev pub text_bytes : List ℕ → List ℕ
text_bytes text = le_bytes 2 (length text) ++ text

-- severity, line, file and format, in this order
abbrev pub raw_entry_bytes : RawEntry → List ℕ
raw_entry_bytes raw = entry_head_bytes raw.severity raw.line ++ text_bytes raw.file ++ text_bytes raw.format

-- each field is in range
pub record IsInRange (raw : RawEntry) : Type 0 where
  pub line_fits : raw.line < 2 ^ 32
  pub named : 1 ≤ length raw.file
  pub short_name : length raw.file ≤ MAX_FILE_NAME
  pub short_format : length raw.format ≤ MAX_FORMAT

abbrev pub raw_of : Message → RawEntry
raw_of message =
    record { severity = message.severity; line = message.line; file = message.file; format = message.format.bytes }

-- the entry of the message
abbrev pub entry_bytes : Message → List ℕ
entry_bytes message = raw_entry_bytes (raw_of message)

-- the bytes are the entry of the message; that the length of its file is in range is kept by the message
pub record SpellsEntry (bytes : List ℕ) (message : Message) : Type 0 where
  pub spelled : bytes ≡ entry_bytes message
  pub line_fits : message.line < 2 ^ 32
  pub formed : Spells message.format.bytes message.format.pieces

-- the bytes begin with the entry of a message
pub record BeginsWithEntry (bytes : List ℕ) : Type 0 where
  pub message : Message
  pub front : List ℕ
  pub rest : List ℕ
  pub joined : bytes ≡ front ++ rest
  pub entry : SpellsEntry front message
