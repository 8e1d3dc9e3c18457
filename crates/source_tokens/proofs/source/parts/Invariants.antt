use Rattle.std.proofs.Common.{◌≤◌, List, length}
use Rattle.source_tokens.specs.declared.token.Token.{Token}
use Rattle.source_tokens.specs.Directives.{InLinesTo}
use Rattle.source_tokens.proofs.Lists.{TokensTo}
use Rattle.source_tokens.proofs.source.parts.Given as goal

abbrev pub invariant-loop-found : goal.invariant-loop-found
invariant-loop-found l =
    (tokens : List Token) × TokensTo l.source tokens l.rest × InLinesTo tokens l.lines.parts l.lines.place × (length l.rest ≤ length l.source)

abbrev pub decreases-loop-found : goal.decreases-loop-found
decreases-loop-found l = length l.rest
