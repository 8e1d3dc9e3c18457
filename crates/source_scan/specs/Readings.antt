-- One statement whose parentheses close, and what is wrong with it.
use Rattle.std.specs.Prelude.{◌≡◌, ℕ, ◌<◌, ◌≤◌, List, length, Some, None}
use Rattle.printf_grammar.specs.declared.piece.Piece.{Piece}
use Rattle.printf_grammar.specs.Spelling.{Spells}
use Rattle.printf_grammar.specs.Breaks.{FormatBreak}
use Rattle.printf_grammar.specs.Types.{Types}
use Rattle.printf_grammar.specs.Pieces.{Parsed}
use Rattle.log_dictionary.specs.declared.severity.Severity.{Severity}
use Rattle.log_dictionary.specs.declared.message.TheConstants.{MAX_FILE_NAME}
use Rattle.source_tokens.specs.declared.token.Token.{Token}
use Rattle.source_scan.specs.declared.found.Found.{Found}
use Rattle.source_scan.specs.declared.found.Found.TheVariants as found
use Rattle.source_scan.specs.declared.found.StatementCause.{StatementCause}
use Rattle.source_scan.specs.declared.found.StatementCause.TheVariants as causes
use Rattle.source_scan.specs.declared.found.Statement.{Statement}
use Rattle.source_scan.specs.declared.found.BadStatement.{BadStatement}
use Rattle.source_scan.specs.declared.reading.StatementReading.{StatementReading}
use Rattle.source_scan.specs.Severities.{NamesSeverity}
use Rattle.source_scan.specs.Items.{format_bytes}

-- where a statement stands, the tokens of its first two arguments, of which the second may be none, and how many
-- others follow
pub record Parted : Type 0 where
  pub file : List ℕ
  pub line : ℕ
  pub severity : List Token
  pub format : List Token
  pub args : ℕ
  pub start : ℕ
  pub head : ℕ
  pub end : ℕ

-- the same as code holds it
abbrev pub parted_of : StatementReading → Parted
parted_of reading = record {
  file = reading.file.now;
  line = reading.line;
  severity = reading.severity.now;
  format = reading.format.now;
  args = reading.args;
  start = reading.start;
  head = reading.head;
  end = reading.end;
}

abbrev pub IsFileName : List ℕ → Type 0
IsFileName name = (1 ≤ length name) × (length name ≤ MAX_FILE_NAME)

-- the first argument names a severity
abbrev pub HasSeverity : List ℕ → Parted → Type 0
HasSeverity source reading = (severity : Severity) × NamesSeverity source reading.severity severity

-- the second argument is a format of these bytes
abbrev pub HasFormat : List ℕ → Parted → List ℕ → Type 0
HasFormat source reading bytes = format_bytes source reading.format ≡ Some bytes

-- there are fewer arguments than the format takes
pub record HasTooFew (source : List ℕ) (reading : Parted) : Type 0 where
  pub bytes : List ℕ
  pub pieces : List Piece
  pub has : HasFormat source reading bytes
  pub spells : Spells bytes pieces
  pub few : reading.args < length (Types pieces)

-- the first cause that holds
abbrev pub HasCause : List ℕ → Parted → StatementCause → Type 0
HasCause source reading causes.Unclosed = ⊥
HasCause source reading causes.FileName = ¬ (IsFileName reading.file)
HasCause source reading causes.Severity = IsFileName reading.file × ¬ (HasSeverity source reading)
HasCause source reading causes.FormatNotLiteral =
    IsFileName reading.file × HasSeverity source reading × (format_bytes source reading.format ≡ None)
HasCause source reading (causes.Format cause place) =
    IsFileName reading.file × HasSeverity source reading
    × ((bytes : List ℕ) × HasFormat source reading bytes × FormatBreak bytes cause place)
HasCause source reading causes.TooFew = IsFileName reading.file × HasSeverity source reading × HasTooFew source reading

-- no cause holds, and the statement says this
pub record IsGood (source : List ℕ) (reading : Parted) (statement : Statement) : Type 0 where
  pub named : IsFileName reading.file
  pub severity : NamesSeverity source reading.severity statement.severity
  pub format : HasFormat source reading statement.format.bytes
  pub spells : Spells statement.format.bytes statement.format.pieces
  pub enough : length (Types statement.format.pieces) ≤ reading.args
  pub file : statement.file ≡ reading.file
  pub line : statement.line ≡ reading.line
  pub args : statement.args ≡ reading.args
  pub start : statement.start ≡ reading.start
  pub head : statement.head ≡ reading.head
  pub end : statement.end ≡ reading.end

-- the statement is refused, from some cause
pub record IsAt (reading : Parted) (bad : BadStatement) : Type 0 where
  pub file : bad.file ≡ reading.file
  pub line : bad.line ≡ reading.line

-- what stands there, or what is wrong with it
abbrev pub IsRead : List ℕ → Parted → Found → Type 0
IsRead source reading (found.Statement statement) = IsGood source reading statement
IsRead source reading (found.Bad bad) = IsAt reading bad × HasCause source reading bad.cause

-- ---- parts of the answer

-- refused from this cause
abbrev pub IsRefused : Parted → StatementCause → Found → Type 0
IsRefused reading cause (found.Statement statement) = ⊥
IsRefused reading cause (found.Bad bad) = IsAt reading bad × (bad.cause ≡ cause)

-- the statement has this severity and format, and says what stands there
pub record IsStated (reading : Parted) (severity : Severity) (format : Parsed) (statement : Statement) : Type 0 where
  pub severity_is : statement.severity ≡ severity
  pub format_is : statement.format ≡ format
  pub enough : length (Types format.pieces) ≤ reading.args
  pub file : statement.file ≡ reading.file
  pub line : statement.line ≡ reading.line
  pub args : statement.args ≡ reading.args
  pub start : statement.start ≡ reading.start
  pub head : statement.head ≡ reading.head
  pub end : statement.end ≡ reading.end

-- the answer for this severity and format
abbrev pub IsWithFormat : Parted → Severity → Parsed → Found → Type 0
IsWithFormat reading severity format (found.Statement statement) = IsStated reading severity format statement
IsWithFormat reading severity format (found.Bad bad) =
    IsAt reading bad × (bad.cause ≡ causes.TooFew) × (reading.args < length (Types format.pieces))
