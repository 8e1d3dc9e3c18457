use Rattle.std.proofs.Common.{map, rules, tests}
use Rattle.std.proofs.lemmas.Iterator.{YieldsList-from_slice}
use Rattle.std.proofs.lemmas.Iterator.Search.{all_from_yields_List}
use Rattle.cli_words.specs.Commands.{is_other}
use Rattle.cli_words.specs.CommandViews.{value_is}
use Rattle.cli_words.proofs.Lines.{sources_told}
use Rattle.cli_words.proofs.operands.are_sources.Goals as goal

pub returns-then-words-le-MAX_SOURCES : goal.returns-then-words-le-MAX_SOURCES
returns-then-words-le-MAX_SOURCES c =
    let given = map value_is c.args.given.now in
    let words = c.args.words.now in
    sources_told (λ word. word.now) given words c.is_empty.result c.all.result c.is_empty.ensures
    c.if-words-le-MAX_SOURCES.true.0 c.if-words-le-MAX_SOURCES.true.1
    (all_from_yields_List (λ word. is_other given word.now) _ _ c.all.result c.all.ensures.ran
    (YieldsList-from_slice words cc) (λ x b q k. search (rules, tests)))
