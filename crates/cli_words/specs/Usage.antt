-- The usage text.
use Rattle.std.specs.Prelude.{ℕ, List, ◌++◌, codes, flat_map}
use Rattle.cli_words.specs.Table.{Operand, SessionOption, CommandRow, rows, row_options}

-- an operand, behind a space
abbrev pub shown_operand : Operand → List ℕ
shown_operand operand = codes " " ++ operand.shown

-- an option that may be left out, behind a space
abbrev pub shown_option : SessionOption → List ℕ
shown_option option = codes " [--" ++ option.name ++ codes " " ++ option.shown ++ codes "]"

-- the form of a command
abbrev pub usage_line : CommandRow → List ℕ
usage_line row =
    codes "  nanolog " ++ row.word ++ flat_map shown_operand row.operands
    ++ flat_map shown_option (row_options row) ++ codes "\n"

-- the forms of the command line
abbrev pub usage_text : List ℕ
usage_text = codes "usage:\n" ++ flat_map usage_line rows
