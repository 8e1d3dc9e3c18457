use Rattle.nanolog_laws.proofs.Unfinished.{same_held, same_put}
use Rattle.nanolog_laws.proofs.laws.refusals_leave_all_as_it_was.Goals as goal

pub returns-clause-held : goal.returns-clause-held
returns-clause-held c = same_held

pub returns-clause-put : goal.returns-clause-put
returns-clause-put c = same_put
