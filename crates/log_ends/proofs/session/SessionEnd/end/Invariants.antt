use Rattle.log_ends.proofs.Finishing.{IsFinishing}
use Rattle.log_ends.proofs.session.SessionEnd.end.Given as goal

abbrev pub invariant-loop-writer : goal.invariant-loop-writer
invariant-loop-writer l = IsFinishing l.writer-index l.initial.writer-items l.writer-items
