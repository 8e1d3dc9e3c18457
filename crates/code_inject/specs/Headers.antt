-- The header of a dictionary: a text in C that has the types and the severity of each message.
use Rattle.std.specs.Prelude.{ℕ, List, [], ◌∷◌, ◌++◌, codes, decimal, length, map, flat_map}
use Rattle.printf_grammar.specs.declared.arg_type.ArgType.{ArgType}
use Rattle.printf_grammar.specs.declared.arg_type.ArgType.TheVariants as types
use Rattle.printf_grammar.specs.Types.{Types}
use Rattle.log_dictionary.specs.declared.message.Message.{Message}
use Rattle.log_dictionary.specs.Severities.{severity_number}
use Rattle.code_inject.specs.declared.headers.HeaderArray.{HeaderArray}
use Rattle.code_inject.specs.declared.headers.HeaderArray.TheVariants as arrays

-- the letter of a type
abbrev pub type_letter : ArgType → ℕ
type_letter types.Int = 105
type_letter types.UInt = 117
type_letter types.Long = 108
type_letter types.ULong = 109
type_letter types.Width = 119
type_letter types.Precision = 112
type_letter types.Text = 115

-- the line of a message's types
abbrev pub types_line : Message → List ℕ
types_line message = 34 ∷ map type_letter (Types message.format.pieces) ++ codes "\",\n"

-- the line of its severity
abbrev pub severity_line : Message → List ℕ
severity_line message = decimal (severity_number message.severity) ++ codes ",\n"

-- ---- arrays

abbrev pub array_name : HeaderArray → List ℕ
array_name arrays.Types = codes "char *const nano_log_types"
array_name arrays.Severities = codes "unsigned char nano_log_severity"

-- the line of a message in an array
abbrev pub array_line : HeaderArray → Message → List ℕ
array_line arrays.Types message = types_line message
array_line arrays.Severities message = severity_line message

-- an array, up to its lines
abbrev pub array_opening : HeaderArray → List ℕ
array_opening array = codes "static const " ++ array_name array ++ codes "[] = {\n"

-- an array with a line for each message
abbrev pub array_text : HeaderArray → List Message → List ℕ
array_text array messages = array_opening array ++ flat_map (array_line array) messages ++ codes "0};\n"

-- ---- the whole header

-- its first two lines
abbrev pub header_opening : ℕ → List ℕ
header_opening count = codes "/* nanolog-header 1 */\n#define NANO_LOG_MESSAGES " ++ decimal count ++ 10 ∷ []

abbrev pub header_text : List Message → List ℕ
header_text messages =
    header_opening (length messages) ++ array_text arrays.Types messages ++ array_text arrays.Severities messages
