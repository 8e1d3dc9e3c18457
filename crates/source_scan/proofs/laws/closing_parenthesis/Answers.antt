use Rattle.source_scan.proofs.Closing.{closes_first, open_all}
use Rattle.source_scan.proofs.laws.closing_parenthesis.Goals as goal

pub returns-clause-some : goal.returns-clause-some
returns-clause-some c = closes_first

pub returns-clause-none : goal.returns-clause-none
returns-clause-none c = open_all
