-- The statements of a source.
use Rattle.std.specs.Prelude.{◌≡◌, ℕ, zero, suc, Bool, false, ◌&&◌, ◌<◌, ◌^◌, List, [], ◌∷◌}
use Rattle.std.specs.Prelude.{length, take, drop, codes, slice_index_or, MatchBool, Option, Some, None}
use Rattle.source_tokens.specs.declared.token.Token.{Token}
use Rattle.source_tokens.specs.Directives.{Parts}
use Rattle.source_scan.specs.declared.position.PlacedChange.{PlacedChange}
use Rattle.source_scan.specs.declared.found.Found.{Found}
use Rattle.source_scan.specs.declared.found.Found.TheVariants as found
use Rattle.source_scan.specs.declared.found.StatementCause.TheVariants as causes
use Rattle.source_scan.specs.declared.found.BadStatement.{BadStatement}
use Rattle.source_scan.specs.declared.statement.ScanInput.{ScanInput}
use Rattle.source_scan.specs.Texts.{is_word, significant}
use Rattle.source_scan.specs.Arguments.{opens_parenthesis, closing_from, parted_from, head_length, first_argument}
use Rattle.source_scan.specs.Readings.{Parted, IsRead}
use Rattle.source_scan.specs.Positions.{InForce, Changes, in_force_at, line_number_at}

-- ---- statements among tokens

-- a source with the name of its file and its line directives
pub record SourceText : Type 0 where
  pub file : List ℕ
  pub bytes : List ℕ
  pub changes : List PlacedChange

-- the same as code holds it
abbrev pub source_text : ScanInput → SourceText
source_text source = record { file = source.file.now; bytes = source.bytes.now; changes = source.changes.now }

-- `NANO_LOG` and `(`, where these tokens stand behind the first
abbrev pub begins : List ℕ → Token → List Token → Bool
begins source token [] = false
begins source token (next ∷ tokens) = is_word (codes "NANO_LOG") source token && opens_parenthesis next

-- the line at each place fits its type
abbrev pub LinesFit : SourceText → Type 0
LinesFit source =
    (place : ℕ) → line_number_at source.bytes (in_force_at source.file source.changes place) place < 2 ^ 32

-- what is in force at a token
abbrev pub in_force : SourceText → Token → InForce
in_force source token = in_force_at source.file source.changes token.start

-- the statement that begins with the token, in this line of this file, where its parenthesis closes at this place of
-- the tokens behind `(`
abbrev pub reading_of : List ℕ → ℕ → Token → List Token → ℕ → Parted
reading_of name line token inside place =
    let arguments : List (List Token) = parted_from 0 (take place inside) in
    record {
      file = name;
      line = line;
      severity = first_argument arguments;
      format = first_argument (drop 1 arguments);
      args = length (drop 2 arguments);
      start = token.start;
      head = (slice_index_or inside (head_length arguments) token).start;
      end = suc (slice_index_or inside place token).start;
    }

-- nothing closes the statement
pub record IsUnclosed (name : List ℕ) (line : ℕ) (bad : BadStatement) : Type 0 where
  pub file : bad.file ≡ name
  pub line_is : bad.line ≡ line
  pub cause : bad.cause ≡ causes.Unclosed

abbrev pub IsUnclosedFound : List ℕ → ℕ → Found → Type 0
IsUnclosedFound name line (found.Statement statement) = ⊥
IsUnclosedFound name line (found.Bad bad) = IsUnclosed name line bad

-- what begins with the token, in this line of this file, by the place where its parenthesis closes
abbrev pub IsFoundIn : List ℕ → List ℕ → ℕ → Token → List Token → Option ℕ → Found → Type 0
IsFoundIn source name line token inside None one = IsUnclosedFound name line one
IsFoundIn source name line token inside (Some place) one = IsRead source (reading_of name line token inside place) one

-- the same by what is in force at the token
abbrev pub IsFoundAt : SourceText → Token → List Token → Option ℕ → Found → Type 0
IsFoundAt source token inside closing one =
    IsFoundIn source.bytes (in_force source token).name (line_number_at source.bytes
    (in_force source token) token.start)
    token inside closing one

-- how many of the tokens behind `(` are a statement's own, by the place where its parenthesis closes
abbrev pub own_tokens : List Token → Option ℕ → ℕ
own_tokens inside None = length inside
own_tokens inside (Some place) = suc place

-- how many of the tokens behind `NANO_LOG` are
abbrev pub own_length : List Token → ℕ
own_length tokens = suc (own_tokens (drop 1 tokens) (closing_from 0 (drop 1 tokens)))

-- the statements among the tokens, where so many at the front belong to one that began before them
unfoldable pub Finds : SourceText → ℕ → List Token → List Found → Type 0
Finds source own [] found = found ≡ []
Finds source (suc own) (token ∷ tokens) found = Finds source own tokens found
Finds source zero (token ∷ tokens) found =
    MatchBool (begins source.bytes token tokens)
    ((one : Found) × (others : List Found) × (found ≡ one ∷ others)
    × IsFoundAt source token (drop 1 tokens) (closing_from 0 (drop 1 tokens)) one
    × Finds source (own_length tokens) tokens others)
    (Finds source zero tokens found)

-- the statements of a source, good and bad ones, in order
pub record Statements (file source : List ℕ) (found : List Found) : Type 0 where
  pub parts : List Token
  pub changes : List PlacedChange
  pub parts_are : Parts source parts
  pub changes_are : Changes source parts changes
  pub finds : Finds (record { file = file; bytes = source; changes = changes }) 0 (significant parts) found
