use Rattle.std.proofs.Common.{refl}
use Rattle.log_dictionary.specs.Texts.{text_from}
use Rattle.log_dictionary.proofs.laws.worked_texts.Goals as goal

pub returns-clause-escapes : goal.returns-clause-escapes
unfolding text_from
returns-clause-escapes c = refl

pub returns-clause-mixed_case : goal.returns-clause-mixed_case
unfolding text_from
returns-clause-mixed_case c = refl

pub returns-clause-one_digit : goal.returns-clause-one_digit
unfolding text_from
returns-clause-one_digit c = refl

pub returns-clause-other_escape : goal.returns-clause-other_escape
unfolding text_from
returns-clause-other_escape c = refl

pub returns-clause-unclosed : goal.returns-clause-unclosed
unfolding text_from
returns-clause-unclosed c = refl

pub returns-clause-unopened : goal.returns-clause-unopened
unfolding text_from
returns-clause-unopened c = refl

pub returns-clause-tab : goal.returns-clause-tab
unfolding text_from
returns-clause-tab c = refl

pub returns-clause-delete : goal.returns-clause-delete
unfolding text_from
returns-clause-delete c = refl

pub returns-clause-high : goal.returns-clause-high
unfolding text_from
returns-clause-high c = refl
