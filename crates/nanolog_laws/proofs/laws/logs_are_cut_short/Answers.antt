use Rattle.nanolog_laws.proofs.Unfinished.{log_lacks_memory, log_cut}
use Rattle.nanolog_laws.proofs.laws.logs_are_cut_short.Goals as goal

pub returns-clause-memory : goal.returns-clause-memory
returns-clause-memory c = log_lacks_memory

pub returns-clause-fault : goal.returns-clause-fault
returns-clause-fault c = log_cut
