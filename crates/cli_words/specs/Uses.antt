-- What the reader of words makes of them.
use Rattle.std.specs.Prelude.{◌≡◌, Bool, List, [], ◌∷◌, Option, Some, None, if◌then◌else◌, unwrap_or, option_map, option_and_then, codes}
use Rattle.std.specs.Str.{bytes_eq}
use Rattle.session_options.specs.Defaults.{default_options}
use Rattle.session_options.specs.declared.options.Options.{Options}
use Rattle.clap.specs.Matches.{found_of}
use Rattle.clap.specs.Walk.{Row, rows_of, all_of}
use Rattle.clap.specs.declared.parser.matches.ArgMatches.{ArgMatches}
use Rattle.cli_words.specs.Commands.{WordBytes, Word, Name, End, Awaits, Sets, Unknown, word_of}
use Rattle.cli_words.specs.Commands.{Given, with_name, with_option, values_given, is_among, options_by}
use Rattle.cli_words.specs.Commands.{Command, command_with}
use Rattle.cli_words.specs.Table.{CommandRow}

-- the values of an id in the rows of a parse
abbrev pub values_in : List Row → WordBytes → List WordBytes
values_in rows id = unwrap_or (all_of id rows) []

-- the values that a parse found of an id
abbrev pub found_values : ArgMatches → WordBytes → List WordBytes
found_values matches = values_in (rows_of (found_of matches))

-- the options of a command by the values that are found
abbrev pub options_in : Bool → (WordBytes → List WordBytes) → Option Options
options_in has_options values = if has_options then options_by values else Some default_options

-- the command of a row by the values that are found
abbrev pub found_command : CommandRow → (WordBytes → List WordBytes) → Option Command
found_command row values =
    option_and_then (command_with row (values (codes "names"))) (options_in row.has_options values)

-- the value of an option, where it is a word of this kind: it must be none that could be an option
abbrev pub read_value : Word → WordBytes → WordBytes → Option Given → Option Given
read_value Name option value given = with_option option value given
read_value _ option value given = None

-- what is read, after an option that waits for its value or after none: what is given, but nothing where an option
-- isn't taken, or where a word that could be an option stands in place of a value. No command takes such a value
abbrev pub read_from : List WordBytes → Option WordBytes → List WordBytes → Option Given
read_from taken (Some option) [] = None
read_from taken (Some option) (value ∷ words) = read_value (word_of value) option value (read_from taken None words)
read_from taken None [] = Some (record { options = []; names = [] })
read_from taken None (word ∷ words) = elim (word_of word) [
  | Name ↦ with_name word (read_from taken None words)
  | End ↦ Some (record { options = []; names = words })
  | Awaits option ↦ if is_among taken option then read_from taken (Some option) words else None
  | Sets option value ↦
      if is_among taken option then with_option option value (read_from taken None words) else None
  | Unknown ↦ None
]

-- the values that an id is given: `names` is that of the names
abbrev pub given_at : Given → WordBytes → List WordBytes
given_at given id = if bytes_eq (codes "names") id then given.names else values_given given.options id

-- the rows have what is given, if something is
abbrev pub AreParsed : Option (List Row) → Option Given → Type 0
AreParsed (Some rows) (Some given) = (id : WordBytes) → values_in rows id ≡ given_at given id
AreParsed None None = Unit {0}
AreParsed _ _ = ⊥

-- what a parse found is what is read of the words, if they are right
abbrev pub IsParsed : List WordBytes → List WordBytes → Option ArgMatches → Type 0
IsParsed taken words found =
    AreParsed (option_map (λ matches. rows_of (found_of matches)) found) (read_from taken None words)
