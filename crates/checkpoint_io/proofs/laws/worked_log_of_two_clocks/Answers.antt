use Rattle.checkpoint_io.proofs.WorkedClocks.{file, valid, log}
use Rattle.checkpoint_io.proofs.laws.worked_log_of_two_clocks.Goals as goal

pub returns-clause-file : goal.returns-clause-file
returns-clause-file c = file

pub returns-clause-valid : goal.returns-clause-valid
returns-clause-valid c = valid

pub returns-clause-log : goal.returns-clause-log
returns-clause-log c = log
