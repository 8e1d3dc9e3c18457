use Rattle.std.proofs.Common.{refl}
use Rattle.source_scan.specs.Arguments.{closing_from, parted_from}
use Rattle.source_scan.proofs.laws.worked_arguments.Goals as goal

pub returns-clause-braces : goal.returns-clause-braces
unfolding parted_from
returns-clause-braces c = refl

pub returns-clause-parentheses : goal.returns-clause-parentheses
unfolding parted_from
returns-clause-parentheses c = refl

pub returns-clause-empty : goal.returns-clause-empty
unfolding parted_from
returns-clause-empty c = refl

pub returns-clause-closing : goal.returns-clause-closing
unfolding closing_from
returns-clause-closing c = refl

pub returns-clause-unclosed : goal.returns-clause-unclosed
unfolding closing_from
returns-clause-unclosed c = refl

pub returns-clause-statement : goal.returns-clause-statement
unfolding parted_from
returns-clause-statement c = refl
