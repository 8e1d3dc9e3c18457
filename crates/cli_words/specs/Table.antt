-- The table of the command line: each command with its operands, and the options of a session.
use Rattle.std.specs.Prelude.{ℕ, Bool, true, false, List, [], ◌∷◌, Option, map, find, codes, if◌then◌else◌}
use Rattle.std.specs.Str.{bytes_eq}
use Rattle.session_options.specs.declared.limits.TheConstants.{MAX_GENERATED_WRITERS, MAX_GENERATED}
use Rattle.cli_words.specs.declared.numbers.TheConstants.{MAX_ID}
use Rattle.cli_words.specs.declared.table.CommandForm.{CommandForm}
use Rattle.cli_words.specs.declared.table.CommandForm.TheVariants as form
use Rattle.cli_words.specs.declared.table.OperandKind.{OperandKind}
use Rattle.cli_words.specs.declared.table.OperandKind.TheVariants.{File, OtherFile, Sources, Number, Seed}

-- what stands at a place behind the command: how the usage text calls it, and which words it takes
pub record Operand : Type 0 where
  pub shown : List ℕ
  pub kind : OperandKind

-- an option, and how the usage text calls its value
pub record SessionOption : Type 0 where
  pub name : List ℕ
  pub shown : List ℕ

-- a command: its word, its operands, and whether it takes the options of a session
pub record CommandRow : Type 0 where
  pub form : CommandForm
  pub word : List ℕ
  pub operands : List Operand
  pub has_options : Bool

abbrev pub called : List ℕ → OperandKind → Operand
called shown kind = record { shown = shown; kind = kind }

-- the seed of a generated trace, and how many calls and writers it has
abbrev pub generated_operands : List Operand
generated_operands =
    called (codes "SEED") Seed ∷ called (codes "CALLS") (Number 0 MAX_GENERATED)
    ∷ called (codes "WRITERS") (Number 1 MAX_GENERATED_WRITERS) ∷ []

abbrev pub row : CommandForm → List ℕ → List Operand → Bool → CommandRow
row form word operands has_options =
    record { form = form; word = word; operands = operands; has_options = has_options }

-- the commands, in the order of the usage text
abbrev pub rows : List CommandRow
rows =
    row form.Preprocess (codes "preprocess") (called (codes "DICT") File ∷ called (codes "FILE..") Sources ∷ []) false
    ∷ row form.Replay (codes "replay") (called (codes "TRACE") File ∷ called (codes "LOG") OtherFile ∷ []) true
    ∷ row form.Decompress (codes "decompress") (called (codes "LOG") File ∷ []) false
    ∷ row form.Aggregate (codes "aggregate")
    (called (codes "LOG") File ∷ called (codes "ID") (Number 0 MAX_ID) ∷ called (codes "NTH") (Number 0 MAX_ID) ∷ []) false
    ∷ row form.Direct (codes "direct") (called (codes "TRACE") File ∷ []) false
    ∷ row form.Generate (codes "generate") generated_operands false
    ∷ row form.Selftest (codes "selftest") generated_operands false
    ∷ row form.Schedule (codes "schedule") (called (codes "FILE") File ∷ []) false
    ∷ row form.Migrate (codes "migrate") (called (codes "OLD") File ∷ called (codes "NEW") OtherFile ∷ []) false
    ∷ row form.Inject (codes "inject")
    (called (codes "DICT") File ∷ called (codes "FILE") File ∷ called (codes "OUT") OtherFile ∷ []) false
    ∷ row form.Header (codes "header") (called (codes "DICT") File ∷ called (codes "OUT") OtherFile ∷ []) false
    ∷ []

-- the options of a session
abbrev pub option_rows : List SessionOption
option_rows =
    record { name = codes "ring"; shown = codes "N" } ∷ record { name = codes "batch"; shown = codes "B" }
    ∷ record { name = codes "full"; shown = codes "wait|drop" } ∷ record { name = codes "level"; shown = codes "S" } ∷ []

-- the row of the command with this word
abbrev pub row_named : List ℕ → Option CommandRow
row_named word = find (λ command. bytes_eq command.word word) rows

-- the options that a command takes
abbrev pub row_options : CommandRow → List SessionOption
row_options command = if command.has_options then option_rows else []

-- their names
abbrev pub options_taken : CommandRow → List (List ℕ)
options_taken command = map (λ option. option.name) (row_options command)
