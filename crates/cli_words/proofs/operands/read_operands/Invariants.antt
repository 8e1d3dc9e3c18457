use Rattle.std.proofs.Common.{◌≡◌, map}
use Rattle.cli_words.specs.Commands.{operand_values}
use Rattle.cli_words.specs.CommandViews.{value_is}
use Rattle.cli_words.specs.TableViews.{operand_is}
use Rattle.cli_words.proofs.OperandValues.{left_from}
use Rattle.cli_words.proofs.operands.read_operands.Given as goal

abbrev pub invariant-loop-operand : goal.invariant-loop-operand
invariant-loop-operand l =
    left_from (map value_is l.values.items) l.operands l.operand-index (map (λ word. word.now) l.left)
    ≡ operand_values (map operand_is l.operands) (map (λ word. word.now) l.words)
