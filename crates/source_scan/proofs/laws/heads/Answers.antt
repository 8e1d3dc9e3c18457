use Rattle.source_scan.proofs.Heads.{head_comma, head_whole}
use Rattle.source_scan.proofs.laws.heads.Goals as goal

pub returns-clause-comma : goal.returns-clause-comma
returns-clause-comma c = head_comma

pub returns-clause-close : goal.returns-clause-close
returns-clause-close c = head_whole
