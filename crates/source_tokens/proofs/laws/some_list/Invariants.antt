use Rattle.std.proofs.Common.{◌≤◌, List, length}
use Rattle.source_tokens.specs.declared.token.Token.{Token}
use Rattle.source_tokens.proofs.Lists.{TokensTo}
use Rattle.source_tokens.proofs.laws.some_list.Given as goal

abbrev pub invariant-loop-found : goal.invariant-loop-found
invariant-loop-found l = (tokens : List Token) × TokensTo l.source tokens l.rest × (length l.rest ≤ length l.source)

abbrev pub decreases-loop-found : goal.decreases-loop-found
decreases-loop-found l = length l.rest
