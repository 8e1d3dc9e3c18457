use Rattle.log_session.specs.Writers.{knows_taken}
use Rattle.log_session.proofs.Logging.{taken_known}
use Rattle.log_session.proofs.laws.writers_may_log_what_the_dictionary_takes.Goals as goal

pub returns-clause-may : goal.returns-clause-may
returns-clause-may c = knows_taken

pub returns-clause-only : goal.returns-clause-only
returns-clause-only c = taken_known
