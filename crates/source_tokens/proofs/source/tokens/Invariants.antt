use Rattle.std.proofs.Common.{◌≤◌, length}
use Rattle.source_tokens.proofs.Lists.{TokensTo}
use Rattle.source_tokens.proofs.source.tokens.Given as goal

abbrev pub invariant-loop-found : goal.invariant-loop-found
invariant-loop-found l = TokensTo l.source l.tokens l.rest × (length l.rest ≤ length l.source)

abbrev pub decreases-loop-found : goal.decreases-loop-found
decreases-loop-found l = length l.rest
