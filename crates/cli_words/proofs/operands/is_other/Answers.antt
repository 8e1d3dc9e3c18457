use Rattle.std.proofs.Common.{◌∙◌, not, sym, rules, tests}
use Rattle.std.proofs.lemmas.Iterator.{YieldsList-from_slice}
use Rattle.std.proofs.lemmas.Iterator.Search.{all_from_yields_List}
use Rattle.cli_words.specs.Commands.{is_file}
use Rattle.cli_words.specs.CommandViews.{value_is}
use Rattle.cli_words.proofs.Lines.{other_told}
use Rattle.cli_words.proofs.operands.is_other.Goals as goal

pub returns-then-is_name : goal.returns-then-is_name
returns-then-is_name c =
    other_told value_is c.args.given.now c.args.word.now c.all.result (sym c.is_name.ensures ∙ c.if-is_name.true)
    (all_from_yields_List (λ value. not (is_file c.args.word.now (value_is value))) _ _ c.all.result c.all.ensures.ran
    (YieldsList-from_slice c.args.given.now cc) (λ x b q k. search (rules, tests)))
