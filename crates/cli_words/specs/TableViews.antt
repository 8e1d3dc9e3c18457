-- The table as the program has it.
use Rattle.std.specs.Prelude.{map}
use Rattle.cli_words.specs.Table.{Operand, SessionOption, CommandRow}
use Rattle.cli_words.specs.declared.table.CommandRow.{CommandRow as RowRead}
use Rattle.cli_words.specs.declared.table.Operand.{Operand as OperandRead}
use Rattle.cli_words.specs.declared.table.SessionOption.{SessionOption as OptionRead}

abbrev pub operand_is : OperandRead → Operand
operand_is operand = record { shown = operand.shown.now; kind = operand.kind }

abbrev pub option_is : OptionRead → SessionOption
option_is option = record { name = option.name.now; shown = option.shown.now }

abbrev pub row_is : RowRead → CommandRow
row_is command = record {
  form = command.form;
  word = command.word.now;
  operands = map operand_is command.operands.now;
  has_options = command.has_options;
}
