use Rattle.std.proofs.Common.{◌≡◌, ◌++◌, take}
use Rattle.std.specs.Prelude.{flat_map}
use Rattle.cli_words.specs.TableViews.{operand_is}
use Rattle.cli_words.specs.Usage.{shown_operand}
use Rattle.cli_words.proofs.usage_text.push_operands.Given as goal

abbrev pub invariant-loop-operand : goal.invariant-loop-operand
invariant-loop-operand l =
    l.text.items ≡ l.initial.text.items ++ flat_map (λ operand. shown_operand (operand_is operand)) (take l.operand-index l.operands)
