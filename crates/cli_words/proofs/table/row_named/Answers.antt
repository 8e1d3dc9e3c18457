use Rattle.std.proofs.Common.{rules, tests}
use Rattle.std.specs.Str.{bytes_eq}
use Rattle.std.proofs.lemmas.Iterator.{YieldsList-from_slice}
use Rattle.std.proofs.lemmas.Iterator.Search.{find_from_yields_List}
use Rattle.cli_words.proofs.Tables.{row_found}
use Rattle.cli_words.proofs.table.row_named.Goals as goal

pub returns : goal.returns
returns c =
    let word = c.args.word.now in
    let all = c.all_rows.result.now in
    row_found word c.find.result all
    (find_from_yields_List (λ command. bytes_eq command.word.now word) _ _ c.find.result c.find.ensures.ran
    (YieldsList-from_slice all cc) (λ x b q k. search (rules, tests)))
    c.all_rows.ensures
