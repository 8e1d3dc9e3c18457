-- What operands are given, one after another.
use Rattle.std.proofs.Common.{ℕ, List, Option, drop, map}
use Rattle.cli_words.specs.Commands.{WordBytes, OperandValue, values_from}
use Rattle.cli_words.specs.TableViews.{operand_is}
use Rattle.cli_words.specs.declared.table.Operand.{Operand as OperandRead}

-- what the operands from this place on are given, behind what is given before
abbrev pub left_from : List OperandValue → List OperandRead → ℕ → List WordBytes → Option (List OperandValue)
left_from given operands place words = values_from given (map operand_is (drop place operands)) words
