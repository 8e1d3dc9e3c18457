-- What stands in the sources of a program.
use Rattle.std.specs.Prelude.{◌≡◌, ℕ, ◌<◌, ◌≤◌, List, [], ◌∷◌, ◌++◌, length, map}
use Rattle.log_dictionary.specs.declared.message.Message.{Message}
use Rattle.source_scan.specs.declared.found.Found.{Found}
use Rattle.source_scan.specs.declared.found.Found.TheVariants as found
use Rattle.source_scan.specs.declared.found.Statement.{Statement}
use Rattle.source_scan.specs.declared.found.BadStatement.{BadStatement}
use Rattle.source_scan.specs.Readings.{IsFileName}
use Rattle.source_scan.specs.Statements.{Statements}
use Rattle.source_scan.specs.declared.statement.TheConstants.{MAX_SOURCE}
use Rattle.preprocessor.specs.declared.refusal.SourceRefusal.{SourceRefusal}
use Rattle.preprocessor.specs.declared.refusal.RefusalCause.TheVariants as causes

-- a source: the name of its file, and its bytes
pub record SourceFile : Type 0 where
  pub name : List ℕ
  pub bytes : List ℕ

-- the bytes of each of these sources
abbrev pub sources_of : List SourceFile → List (List ℕ)
sources_of files = map (λ (file : SourceFile). file.bytes) files

-- what stands at one place of the sources: the message of a statement, or what is refused
pub data Finding : Type 0 where
  stated : Message → Finding
  refused : SourceRefusal → Finding

-- ---- one place

-- the statement has this message
pub record IsMessageOf (statement : Statement) (message : Message) : Type 0 where
  pub file : message.file ≡ statement.file
  pub line : message.line ≡ statement.line
  pub severity : message.severity ≡ statement.severity
  pub format : message.format ≡ statement.format

-- what is refused where a statement is bad
abbrev pub bad_refusal : BadStatement → SourceRefusal
bad_refusal bad = record { file = bad.file; line = bad.line; cause = causes.Statement bad.cause }

-- what a scan found stands there
abbrev pub IsFinding : Found → Finding → Type 0
IsFinding (found.Statement statement) (Finding.stated message) = IsMessageOf statement message
IsFinding (found.Statement statement) (Finding.refused refusal) = ⊥
IsFinding (found.Bad bad) (Finding.stated message) = ⊥
IsFinding (found.Bad bad) (Finding.refused refusal) = refusal ≡ bad_refusal bad

-- a statement's file has a name that a message may have
abbrev pub IsNamed : Found → Type 0
IsNamed (found.Statement statement) = IsFileName statement.file
IsNamed (found.Bad bad) = Unit {0}

-- ---- sources

-- all that a scan found, place by place
abbrev pub AreFindings : List Found → List Finding → Type 0
AreFindings [] findings = findings ≡ []
AreFindings (one ∷ found) findings =
    (first : Finding) × (others : List Finding) × (findings ≡ first ∷ others)
    × IsFinding one first × AreFindings found others

-- what is refused where a source is too large
abbrev pub large_refusal : List ℕ → SourceRefusal
large_refusal name = record { file = name; line = 0; cause = causes.TooLarge }

-- what stands in a source, which isn't scanned where it is too large
pub data HasFindings (file : SourceFile) (findings : List Finding) : Type 0 where
  too_large : MAX_SOURCE < length file.bytes
      → findings ≡ Finding.refused (large_refusal file.name) ∷ []
      → HasFindings file findings
  scanned : (found : List Found) → length file.bytes ≤ MAX_SOURCE → Statements file.name file.bytes found
      → AreFindings found findings → HasFindings file findings

-- what stands in these sources, in their order
abbrev pub AllHave : List SourceFile → List Finding → Type 0
AllHave [] findings = findings ≡ []
AllHave (file ∷ files) findings =
    (first : List Finding) × (others : List Finding) × (findings ≡ first ++ others)
    × HasFindings file first × AllHave files others
