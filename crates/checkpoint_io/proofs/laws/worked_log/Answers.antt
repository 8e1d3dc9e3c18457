use Rattle.std.proofs.Common.{lit≤}
use Rattle.checkpoint_io.proofs.lemmas.Worked.{file, valid, log}
use Rattle.checkpoint_io.proofs.laws.worked_log.Goals as goal

pub returns-clause-file : goal.returns-clause-file
returns-clause-file c = file

pub returns-clause-valid : goal.returns-clause-valid
returns-clause-valid c = valid

pub returns-clause-log : goal.returns-clause-log
returns-clause-log c = log 4096 (lit≤ tt)

pub returns-clause-log_of_small_batches : goal.returns-clause-log_of_small_batches
returns-clause-log_of_small_batches c = log 1 (lit≤ tt)
