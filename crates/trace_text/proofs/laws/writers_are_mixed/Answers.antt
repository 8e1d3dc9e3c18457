use Rattle.trace_text.proofs.Worked.{mixed}
use Rattle.trace_text.proofs.laws.writers_are_mixed.Goals as goal

pub returns : goal.returns
returns c = mixed
