-- An entry as it is read, from left to right: what the bytes give, or why they begin with none.
use Rattle.std.specs.Prelude.{ℕ, ◌≤◌, ◌<◌, ◌⊎◌, List, length, nat_eq, nat_le, ◌&&◌, if◌then◌else◌, Result, Ok, Err, ⊤}
use Rattle.std.proofs.Common.{inl, inr}
use Rattle.std.proofs.lemmas.Bool.{cases_lt}
use Rattle.printf_grammar.specs.declared.limits.TheConstants.{MAX_FORMAT}
use Rattle.printf_grammar.proofs.lemmas.Total.{SpellsOrBreaks, one_holds}
use Rattle.nibble_pack.specs.Parsing.{Parse, ◌>>=◌, provided, first_byte, so_many, low_first}
use Rattle.log_dictionary.specs.declared.severity.Severity.{Severity}
use Rattle.log_dictionary.specs.declared.severity.Severity.TheVariants.{Error, Warning, Notice, Debug}
use Rattle.log_dictionary.specs.declared.message.TheConstants.{MAX_FILE_NAME}
use Rattle.log_dictionary.specs.declared.message.Message.{Message}
use Rattle.log_dictionary.specs.declared.binary_entry.EntryCause.{EntryCause}
use Rattle.log_dictionary.specs.declared.binary_entry.EntryCause.TheVariants.{Cut, BadEntry}
use Rattle.log_dictionary.specs.declared.binary_entry.EntryFault.{EntryFault}
use Rattle.log_dictionary.specs.declared.binary_entry.EntryFault.TheVariants as faults
use Rattle.log_dictionary.specs.declared.binary_entry.EntryFields.{EntryFields}
use Rattle.log_dictionary.specs.BinaryEntries.{RawEntry}

-- ---- fields

-- the severity of a number from 1 to 4
abbrev pub severity_of : ℕ → Result Severity EntryCause
severity_of number =
    if nat_eq number 1 then Ok Error
    else if nat_eq number 2 then Ok Warning
    else if nat_eq number 3 then Ok Notice
    else if nat_eq number 4 then Ok Debug
    else Err BadEntry

abbrev pub severity_at : List ℕ → Parse EntryCause Severity
severity_at bytes = do
  number ← first_byte Cut bytes
  severity ← severity_of number.0
  Ok (severity, number.1)

-- a text with its length in front, which is in range
abbrev pub sized_text_at : ℕ → ℕ → List ℕ → Parse EntryCause (List ℕ)
sized_text_at least most bytes = do
  len ← low_first 2 Cut bytes
  judged ← provided (nat_le least len.0 && nat_le len.0 most) BadEntry len
  so_many judged.0 Cut judged.1

-- the severity, the line, the file and the format
abbrev pub fields_at : List ℕ → Parse EntryCause RawEntry
fields_at bytes = do
  severity ← severity_at bytes
  line ← low_first 4 Cut severity.1
  file ← sized_text_at 1 MAX_FILE_NAME line.1
  format ← sized_text_at 0 MAX_FORMAT file.1
  Ok (record { severity = severity.0; line = line.0; file = file.0; format = format.0 }, format.1)

-- ---- messages

-- the message of fields, once it is known what the format spells, and that the file has a name, which isn't too long
abbrev pub message_made : (raw : RawEntry) → SpellsOrBreaks raw.format
    → (length raw.file < 1) ⊎ (1 ≤ length raw.file)
    → (MAX_FILE_NAME < length raw.file) ⊎ (length raw.file ≤ MAX_FILE_NAME)
    → Result Message EntryCause
message_made raw (inl (pieces, spelled)) (inr named) (inr short) = Ok (record {
  file = raw.file;
  line = raw.line;
  severity = raw.severity;
  format = record { bytes = raw.format; pieces = pieces };
  file_length = (named, short);
})
message_made raw _ _ _ = Err BadEntry

-- the message of fields, if their format is one
abbrev pub message_of : RawEntry → Result Message EntryCause
message_of raw =
    message_made raw (one_holds raw.format) (cases_lt (length raw.file) 1) (cases_lt MAX_FILE_NAME (length raw.file))

-- the message whose entry stands there
abbrev pub entry_at : List ℕ → Parse EntryCause Message
entry_at bytes = do
  fields ← fields_at bytes
  message ← message_of fields.0
  Ok (message, fields.1)

-- ---- what is told of them

-- the fields without where they lie in memory
abbrev pub raw_fields : EntryFields → RawEntry
raw_fields fields =
    record { severity = fields.severity; line = fields.line; file = fields.file.now; format = fields.format.now }

-- the fault that tells this cause
abbrev pub fault_of : EntryCause → EntryFault
fault_of Cut = faults.Cut
fault_of BadEntry = faults.BadEntry

-- there is none for a cause of which this holds; want of memory says nothing of the bytes
abbrev pub IsNoEntry : (EntryCause → Type 0) → EntryFault → Type 0
IsNoEntry such faults.Cut = such Cut
IsNoEntry such faults.BadEntry = such BadEntry
IsNoEntry such faults.NoMemory = ⊤
