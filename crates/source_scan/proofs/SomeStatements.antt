-- A source has statements.
use Rattle.std.proofs.Common.{◌≡◌, ℕ, zero, suc, ◌⊎◌, List, [], ◌∷◌, Option, Some, None, refl, sym, ap, ◌∙◌, inl, inr, arith, drop, length}
use Rattle.std.proofs.lemmas.Bool.{cases_Bool, cases_lt}
use Rattle.std.proofs.lemmas.Option.{none-some, same_Some}
use Rattle.printf_grammar.specs.declared.piece.Piece.{Piece}
use Rattle.printf_grammar.specs.Spelling.{Spells}
use Rattle.printf_grammar.specs.Types.{Types}
use Rattle.printf_grammar.proofs.lemmas.Total.{one_holds}
use Rattle.log_dictionary.specs.declared.severity.Severity.{Severity}
use Rattle.log_dictionary.specs.declared.message.TheConstants.{MAX_FILE_NAME}
use Rattle.log_dictionary.proofs.lemmas.LineLaws.{severity_name_or_not}
use Rattle.source_tokens.specs.declared.token.Token.{Token}
use Rattle.source_tokens.specs.Directives.{Parts}
use Rattle.source_scan.specs.declared.found.Found.{Found}
use Rattle.source_scan.specs.declared.found.Found.TheVariants as found
use Rattle.source_scan.specs.declared.found.StatementCause.{StatementCause}
use Rattle.source_scan.specs.declared.found.StatementCause.TheVariants as causes
use Rattle.source_scan.specs.Texts.{unspliced, bytes_of, significant}
use Rattle.source_scan.specs.Severities.{last_name, without_scope, NamesSeverity}
use Rattle.source_scan.specs.Items.{format_bytes}
use Rattle.source_scan.specs.Positions.{line_number_at}
use Rattle.source_scan.specs.Readings.{Parted, IsFileName, HasSeverity, HasFormat, HasCause, IsRead}
use Rattle.source_scan.specs.Arguments.{closing_from}
use Rattle.source_scan.specs.Statements.{SourceText, begins, in_force, reading_of, IsFoundIn, own_length, Finds, Statements}
use Rattle.source_scan.proofs.FoundLists.{other-front, found-front}
use Rattle.source_scan.proofs.SomeTokens.{HaveTokens}
use Rattle.source_scan.proofs.SomeChanges.{some_changes}

-- ---- what a statement has or doesn't have

file_name_or_not : (name : List ℕ) → IsFileName name ⊎ ¬ (IsFileName name)
file_name_or_not name =
    elim (cases_lt (length name) 1) [
      | inl empty ↦ inr (λ is. omega (arith, empty, is.0))
      | inr some ↦ elim (cases_lt MAX_FILE_NAME (length name)) [
        | inl long ↦ inr (λ is. omega (arith, long, is.1))
        | inr short ↦ inl (some, short)
      ]
    ]

none_or_some : {A : Type 0} (found : Option A) → (found ≡ None) ⊎ ((one : A) × (found ≡ Some one))
none_or_some None = inl refl
none_or_some (Some one) = inr (one, refl)

severity_or_not : (source : List ℕ) (reading : Parted) → HasSeverity source reading ⊎ ¬ (HasSeverity source reading)
severity_or_not source reading =
    let name : Option Token = last_name (without_scope reading.severity) in
    elim (none_or_some name) [
      | inl none ↦ inr (λ has. none-some has.1.0 (sym none ∙ has.1.1))
      | inr one ↦ elim (severity_name_or_not (unspliced (bytes_of source one.0))) [
        | inl named ↦ inl (named.0, (one.0, one.1, named.1))
        | inr apart ↦ inr (λ has. apart has.0 (ap (λ (token : Token). unspliced (bytes_of source token)) (same_Some one.0 has.1.0 (sym one.1 ∙ has.1.1)) ∙ has.1.2))
      ]
    ]

-- ---- one statement

refused : (source : List ℕ) (reading : Parted) (cause : StatementCause) → HasCause source reading cause → (one : Found) × IsRead source reading one
refused source reading cause has = (found.Bad (record { file = reading.file; line = reading.line; cause = cause }), (record { file = refl; line = refl }, has))

-- the format is one
with_format : (source : List ℕ) (reading : Parted) (severity : Severity) (bytes : List ℕ) (pieces : List Piece) → IsFileName reading.file → NamesSeverity source reading.severity severity → HasFormat source reading bytes → Spells bytes pieces
    → (one : Found) × IsRead source reading one
with_format source reading severity bytes pieces file names has spells =
    elim (cases_lt reading.args (length (Types pieces))) [
      | inl few ↦ refused source reading causes.TooFew (file, (severity, names), record { bytes = bytes; pieces = pieces; has = has; spells = spells; few = few })
      | inr enough ↦ (
        found.Statement (record {
          file = reading.file;
          line = reading.line;
          severity = severity;
          format = record { bytes = bytes; pieces = pieces };
          args = reading.args;
          start = reading.start;
          head = reading.head;
          end = reading.end;
        }),
        record { named = file; severity = names; format = has; spells = spells; enough = enough; file = refl; line = refl; args = refl; start = refl; head = refl; end = refl },
      )
    ]

-- the severity and the file's name are such
with_severity : (source : List ℕ) (reading : Parted) (severity : Severity) → IsFileName reading.file → NamesSeverity source reading.severity severity → (one : Found) × IsRead source reading one
with_severity source reading severity file names =
    elim (none_or_some (format_bytes source reading.format)) [
      | inl none ↦ refused source reading causes.FormatNotLiteral (file, (severity, names), none)
      | inr bytes ↦ elim (one_holds bytes.0) [
        | inl spells ↦ with_format source reading severity bytes.0 spells.0 file names bytes.1 spells.1
        | inr breaks ↦ refused source reading (causes.Format breaks.0 breaks.1) (file, (severity, names), (bytes.0, bytes.1, breaks.2))
      ]
    ]

some_reading : (source : List ℕ) (reading : Parted) → (one : Found) × IsRead source reading one
some_reading source reading =
    elim (file_name_or_not reading.file) [
      | inl file ↦ elim (severity_or_not source reading) [
        | inl has ↦ with_severity source reading has.0 file has.1
        | inr none ↦ refused source reading causes.Severity (file, none)
      ]
      | inr none ↦ refused source reading causes.FileName none
    ]

some_found : (source name : List ℕ) (line : ℕ) (token : Token) (inside : List Token) (closing : Option ℕ) → (one : Found) × IsFoundIn source name line token inside closing one
some_found source name line token inside None = (found.Bad (record { file = name; line = line; cause = causes.Unclosed }), record { file = refl; line_is = refl; cause = refl })
some_found source name line token inside (Some place) = some_reading source (reading_of name line token inside place)

-- ---- all statements

some_finds : (source : SourceText) (own : ℕ) (tokens : List Token) → (found : List Found) × Finds source own tokens found
unfolding Finds
some_finds source own [] = ([], refl)
some_finds source (suc own) (token ∷ tokens) = some_finds source own tokens
some_finds source zero (token ∷ tokens) =
    elim (cases_Bool (begins source.bytes token tokens)) [
      | inl is ↦
          let one = some_found source.bytes (in_force source token).name (line_number_at source.bytes (in_force source token) token.start) token (drop 1 tokens) (closing_from 0 (drop 1 tokens)) in
          let rest = some_finds source (own_length tokens) tokens in
          (one.0 ∷ rest.0, found-front source token tokens one.0 rest.0 is one.1 rest.1)
      | inr none ↦
          let rest = some_finds source zero tokens in
          (rest.0, other-front source token tokens rest.0 none rest.1)
    ]

pub some_statements : (source : List ℕ) (parts : List Token) → Parts source parts → HaveTokens source → (file : List ℕ) → (found : List Found) × Statements file source found
some_statements source parts are have file =
    let changes = some_changes source parts have in
    let finds = some_finds (record { file = file; bytes = source; changes = changes.0 }) 0 (significant parts) in
    (finds.0, record { parts = parts; changes = changes.0; parts_are = are; changes_are = changes.1; finds = finds.1 })
