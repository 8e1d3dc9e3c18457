use Rattle.aggregation.proofs.Worked.{numbers, width, not_narrowed, limits}
use Rattle.aggregation.proofs.laws.worked_totals.Goals as goal

pub returns-clause-numbers : goal.returns-clause-numbers
returns-clause-numbers c = numbers

pub returns-clause-width : goal.returns-clause-width
returns-clause-width c = width

pub returns-clause-not_narrowed : goal.returns-clause-not_narrowed
returns-clause-not_narrowed c = not_narrowed

pub returns-clause-long_numbers : goal.returns-clause-long_numbers
returns-clause-long_numbers c = limits
