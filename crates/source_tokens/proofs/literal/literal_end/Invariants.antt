use Rattle.std.proofs.Common.{◌≤◌, length}
use Rattle.source_tokens.proofs.Literals.{Inside}
use Rattle.source_tokens.proofs.literal.literal_end.Given as goal

abbrev pub invariant-loop-rest : goal.invariant-loop-rest
invariant-loop-rest l = Inside l.mark l.bytes l.rest × (length l.rest ≤ length l.bytes)

abbrev pub decreases-loop-rest : goal.decreases-loop-rest
decreases-loop-rest l = length l.rest
