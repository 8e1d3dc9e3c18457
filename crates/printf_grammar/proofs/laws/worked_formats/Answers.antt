use Rattle.printf_grammar.proofs.lemmas.Worked.{padded, starred}
use Rattle.printf_grammar.proofs.laws.worked_formats.Goals as goal

pub returns-clause-padded : goal.returns-clause-padded
returns-clause-padded c = padded

pub returns-clause-starred : goal.returns-clause-starred
returns-clause-starred c = starred
