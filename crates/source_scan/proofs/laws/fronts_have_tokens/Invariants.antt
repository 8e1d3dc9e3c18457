use Rattle.std.proofs.Common.{length}
use Rattle.source_scan.proofs.SomeTokens.{FrontsTo}
use Rattle.source_scan.proofs.laws.fronts_have_tokens.Given as goal

abbrev pub invariant-loop-front : goal.invariant-loop-front
invariant-loop-front l = FrontsTo l.source l.front

abbrev pub decreases-loop-front : goal.decreases-loop-front
decreases-loop-front l = length l.front
