-- What the words of a command line ask for.
use Rattle.std.specs.Prelude.{ℕ, Bool, false, true, not, ◌&&◌, ◌==◌, List, [], ◌∷◌, ◌++◌, map, find, Option, Some, None}
use Rattle.std.specs.Prelude.{codes, if◌then◌else◌, String, length, nat_le, nat_lt}
use Rattle.std.specs.Prelude.{option_map, option_and_then, drop}
use Rattle.std.specs.List.{list_all, list_any, before_first, after_first}
use Rattle.std.specs.String.{string_bytes}
use Rattle.std.specs.Str.{all_ascii_digits, bytes_eq}
use Rattle.std.specs.Str.Parse.{digits_value}
use Rattle.log_dictionary.specs.Severities.{severity_name}
use Rattle.log_dictionary.specs.declared.severity.Severity.{Severity}
use Rattle.log_dictionary.specs.declared.severity.Severity.TheVariants.{Error, Warning, Notice, Debug}
use Rattle.session_options.specs.declared.limits.TheConstants.{MIN_RING, MAX_RING, MAX_BATCH}
use Rattle.session_options.specs.Defaults.{default_options}
use Rattle.session_options.specs.declared.options.Options.{Options}
use Rattle.session_options.specs.declared.options.Policy.{Policy}
use Rattle.session_options.specs.declared.options.Policy.TheVariants.{Wait, Shed}
use Rattle.cli_words.specs.declared.numbers.TheConstants.{MAX_DIGITS, MAX_SEED}
use Rattle.cli_words.specs.declared.operands.TheConstants.{MAX_SOURCES}
use Rattle.cli_words.specs.declared.table.CommandForm.{CommandForm}
use Rattle.cli_words.specs.declared.table.CommandForm.TheVariants as form
use Rattle.cli_words.specs.declared.table.OperandKind.{OperandKind}
use Rattle.cli_words.specs.declared.table.OperandKind.TheVariants as kind
use Rattle.cli_words.specs.Table.{Operand, CommandRow, row_named, options_taken}

-- a word, a name or a value: the bytes of its text
abbrev pub WordBytes : Type 0
WordBytes = List ℕ

-- the words' texts
abbrev pub texts_of : {A : Type 0} → List (String A) → List WordBytes
texts_of words = map string_bytes words

-- what the program is asked to do
pub data Command : Type 0 where
  Preprocess : (dictionary : WordBytes) (sources : List WordBytes) → Command
  Direct : (trace : WordBytes) → Command
  Replay : (trace log : WordBytes) (options : Options) → Command
  Decompress : (log : WordBytes) → Command
  Aggregate : (log : WordBytes) (id nth : ℕ) → Command
  Generate : (seed calls writers : ℕ) → Command
  Selftest : (seed calls writers : ℕ) → Command
  Schedule : (file : WordBytes) → Command
  Migrate : (old new : WordBytes) → Command
  Inject : (dictionary source output : WordBytes) → Command
  Header : (dictionary output : WordBytes) → Command

-- ---- what a word is

-- what a word after the command is: a name; `--`, which ends the options; `--option`, whose value is the next word;
-- `--option=value`; or an option that no command has, as `-o`
pub data Word : Type 0 where
  Name : Word
  End : Word
  Awaits : (option : WordBytes) → Word
  Sets : (option value : WordBytes) → Word
  Unknown : Word

-- the byte is `=`
abbrev pub is_equals : ℕ → Bool
is_equals byte = byte == 61

-- the word that begins with `--`, by what follows
abbrev pub after_dashes : WordBytes → Word
after_dashes [] = End
after_dashes (byte ∷ bytes) =
    if list_any is_equals (byte ∷ bytes)
    then Sets (before_first is_equals (byte ∷ bytes)) (after_first is_equals (byte ∷ bytes))
    else Awaits (byte ∷ bytes)

-- a word of two or more characters, by its first two bytes and the rest: it is an option where the first is `-`
abbrev pub long_word : ℕ → ℕ → WordBytes → Word
long_word first second bytes = if first == 45 then (if second == 45 then after_dashes bytes else Unknown) else Name

-- what a word is; `-` alone is a name
abbrev pub word_of : WordBytes → Word
word_of [] = Name
word_of (first ∷ []) = Name
word_of (first ∷ second ∷ bytes) = long_word first second bytes

-- ---- what the words give

-- the options that are given, each with its value, and the names, both in the order of the words
pub record Given : Type 0 where
  pub options : List (WordBytes × WordBytes)
  pub names : List WordBytes

-- one more option, before those that are given
abbrev pub with_option : WordBytes → WordBytes → Option Given → Option Given
with_option option value found =
    option_map (λ (given : Given). record given { options = (option, value) ∷ given.options }) found

-- one more name, before those that are given
abbrev pub with_name : WordBytes → Option Given → Option Given
with_name name found = option_map (λ (given : Given). record given { names = name ∷ given.names }) found

-- what the words give, after an option that waits for its value, or after none; None where an option lacks its value,
-- or where no command has it
abbrev pub given_from : Option WordBytes → List WordBytes → Option Given
given_from (Some option) [] = None
given_from (Some option) (value ∷ words) = with_option option value (given_from None words)
given_from None [] = Some (record { options = []; names = [] })
given_from None (word ∷ words) = elim (word_of word) [
  | Name ↦ with_name word (given_from None words)
  | End ↦ Some (record { options = []; names = words })
  | Awaits option ↦ given_from (Some option) words
  | Sets option value ↦ with_option option value (given_from None words)
  | Unknown ↦ None
]

-- what the words after the command give
abbrev pub given_of : List WordBytes → Option Given
given_of = given_from None

-- ---- what that asks for

-- the number that decimal digits spell, where it lies in these bounds. There is one digit at least, and there are not
-- too many, with the zeros in front
abbrev pub number_within : ℕ → ℕ → WordBytes → Option ℕ
number_within least most digits =
    if all_ascii_digits digits && nat_lt 0 (length digits) && nat_le (length digits) MAX_DIGITS
    && nat_le least (digits_value 10 digits) && nat_le (digits_value 10 digits) most
    then Some (digits_value 10 digits) else None

-- the severity of this name
abbrev pub severity_named : WordBytes → Option Severity
severity_named name = find (λ severity. bytes_eq (severity_name severity) name) (Error ∷ Warning ∷ Notice ∷ Debug ∷ [])

-- what becomes of calls for which there is no room, by its name
abbrev pub policy_named : WordBytes → Option Policy
policy_named name =
    if bytes_eq name (codes "wait") then Some Wait else if bytes_eq name (codes "drop") then Some Shed else None

-- ---- the options of a session, each by the values that it is given

-- what an option says by these values: what is usual where there is none, and nothing where there are several
abbrev pub said_by : {A : Type 0} → A → (WordBytes → Option A) → List WordBytes → Option A
said_by usual read [] = Some usual
said_by usual read (value ∷ []) = read value
said_by usual read _ = None

-- the words of a ring
abbrev pub ring_by : List WordBytes → Option ℕ
ring_by = said_by default_options.ring (number_within MIN_RING MAX_RING)

-- the most records of an extent
abbrev pub batch_by : List WordBytes → Option ℕ
batch_by = said_by default_options.batch (number_within 1 MAX_BATCH)

-- what becomes of calls for which there is no room
abbrev pub policy_by : List WordBytes → Option Policy
policy_by = said_by default_options.policy policy_named

-- the level
abbrev pub level_by : List WordBytes → Option Severity
level_by = said_by default_options.level severity_named

-- the options together, where each is right
abbrev pub options_with : Option ℕ → Option ℕ → Option Policy → Option Severity → Option Options
options_with (Some ring) (Some batch) (Some policy) (Some level) =
    Some (record { ring = ring; batch = batch; policy = policy; level = level })
options_with _ _ _ _ = None

-- the options by the values that each is given
abbrev pub options_by : (WordBytes → List WordBytes) → Option Options
options_by values =
    options_with (ring_by (values (codes "ring"))) (batch_by (values (codes "batch")))
    (policy_by (values (codes "full"))) (level_by (values (codes "level")))

-- ---- which options are given

-- the values of the option with this name, in order
abbrev pub values_given : List (WordBytes × WordBytes) → WordBytes → List WordBytes
values_given [] name = []
values_given (option ∷ options) name =
    if bytes_eq option.0 name then option.1 ∷ values_given options name else values_given options name

-- the name is among these
abbrev pub is_among : List WordBytes → WordBytes → Bool
is_among names name = list_any (λ known. bytes_eq known name) names

-- the options that are set, where each is one of these
abbrev pub options_of : List WordBytes → List (WordBytes × WordBytes) → Option Options
options_of names options =
    if list_all (λ option. is_among names option.0) options then options_by (values_given options) else None

-- ---- the operands

-- what an operand is given
pub data OperandValue : Type 0 where
  File : (name : WordBytes) → OperandValue
  Sources : (names : List WordBytes) → OperandValue
  Number : (number : ℕ) → OperandValue
  Seed : (seed : ℕ) → OperandValue

-- a name is not empty
abbrev pub is_name : WordBytes → Bool
is_name [] = false
is_name (byte ∷ bytes) = true

-- the operand is given the file of this name
abbrev pub is_file : WordBytes → OperandValue → Bool
is_file name (File other) = bytes_eq other name
is_file name _ = false

-- a name that is another word than that of each file which is given before
abbrev pub is_other : List OperandValue → WordBytes → Bool
is_other given name = is_name name && list_all (λ value. not (is_file name value)) given

-- the names of sources: there is one at least, there are not too many, and none is that of a file which is given before
abbrev pub are_sources : List OperandValue → List WordBytes → Bool
are_sources given names =
    nat_lt 0 (length names) && nat_le (length names) MAX_SOURCES && list_all (is_other given) names

-- what an operand of this kind is given by the words that are left, where the first of them fits, or all do; these are
-- given before
abbrev pub value_at : List OperandValue → OperandKind → List WordBytes → Option OperandValue
value_at given kind.Sources words = if are_sources given words then Some (Sources words) else None
value_at given _ [] = None
value_at given kind.File (word ∷ words) = if is_name word then Some (File word) else None
value_at given kind.OtherFile (word ∷ words) = if is_other given word then Some (File word) else None
value_at given (kind.Number least most) (word ∷ words) = option_map Number (number_within least most word)
value_at given kind.Seed (word ∷ words) = option_map Seed (number_within 0 MAX_SEED word)

-- the words that are left behind it
abbrev pub words_behind : OperandKind → List WordBytes → List WordBytes
words_behind kind.Sources words = []
words_behind _ words = drop 1 words

-- what operands are given by the words that are left, where each fits and none is left over, behind what is given before
abbrev pub values_from : List OperandValue → List Operand → List WordBytes → Option (List OperandValue)
values_from given [] [] = Some given
values_from given [] (word ∷ words) = None
values_from given (operand ∷ operands) words =
    option_and_then
    (λ value. values_from (given ++ value ∷ []) operands (words_behind operand.kind words))
    (value_at given operand.kind words)

-- what operands are given by these words
abbrev pub operand_values : List Operand → List WordBytes → Option (List OperandValue)
operand_values operands words = values_from [] operands words

-- ---- the command

-- the command of this form with what its operands are given
abbrev pub made : CommandForm → List OperandValue → Options → Option Command
made form.Preprocess (File dictionary ∷ Sources sources ∷ []) options = Some (Preprocess dictionary sources)
made form.Replay (File trace ∷ File log ∷ []) options = Some (Replay trace log options)
made form.Decompress (File log ∷ []) options = Some (Decompress log)
made form.Aggregate (File log ∷ Number id ∷ Number nth ∷ []) options = Some (Aggregate log id nth)
made form.Direct (File trace ∷ []) options = Some (Direct trace)
made form.Generate (Seed seed ∷ Number calls ∷ Number writers ∷ []) options = Some (Generate seed calls writers)
made form.Selftest (Seed seed ∷ Number calls ∷ Number writers ∷ []) options = Some (Selftest seed calls writers)
made form.Schedule (File file ∷ []) options = Some (Schedule file)
made form.Migrate (File old ∷ File new ∷ []) options = Some (Migrate old new)
made form.Inject (File dictionary ∷ File source ∷ File output ∷ []) options = Some (Inject dictionary source output)
made form.Header (File dictionary ∷ File output ∷ []) options = Some (Header dictionary output)
made _ _ options = None

-- the command of a row with these names and options
abbrev pub command_with : CommandRow → List WordBytes → Options → Option Command
command_with row names options =
    option_and_then (λ values. made row.form values options) (operand_values row.operands names)

-- the command of a row with what is given
abbrev pub asked : CommandRow → Given → Option Command
asked row given = option_and_then (command_with row given.names) (options_of (options_taken row) given.options)

-- the command that the words after the program's name ask for, if they ask for one
abbrev pub command_of : List WordBytes → Option Command
command_of [] = None
command_of (word ∷ words) = option_and_then (λ row. option_and_then (asked row) (given_of words)) (row_named word)
