use Rattle.printf_grammar.proofs.lemmas.Total.{one_holds}
use Rattle.printf_grammar.proofs.lemmas.Unique.{spells_once, breaks_once, never_both}
use Rattle.printf_grammar.proofs.laws.one_reading.Goals as goal

pub returns-clause-spells_or_breaks : goal.returns-clause-spells_or_breaks
returns-clause-spells_or_breaks c = one_holds

pub returns-clause-not_both : goal.returns-clause-not_both
returns-clause-not_both c = never_both

pub returns-clause-one_list : goal.returns-clause-one_list
returns-clause-one_list c = spells_once

pub returns-clause-one_break : goal.returns-clause-one_break
returns-clause-one_break c = breaks_once
