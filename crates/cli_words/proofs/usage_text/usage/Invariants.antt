use Rattle.std.proofs.Common.{◌≡◌, ◌++◌, take, codes}
use Rattle.std.specs.Prelude.{flat_map}
use Rattle.cli_words.specs.TableViews.{row_is}
use Rattle.cli_words.specs.Usage.{usage_line}
use Rattle.cli_words.proofs.usage_text.usage.Given as goal

abbrev pub invariant-loop-row : goal.invariant-loop-row
invariant-loop-row l =
    l.text.items ≡ codes "usage:\n" ++ flat_map (λ command. usage_line (row_is command)) (take l.row-index l.row-items)
