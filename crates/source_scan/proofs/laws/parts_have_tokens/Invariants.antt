use Rattle.std.proofs.Common.{length}
use Rattle.source_scan.proofs.SomeTokens.{RestsTo}
use Rattle.source_scan.proofs.laws.parts_have_tokens.Given as goal

abbrev pub invariant-loop-rest : goal.invariant-loop-rest
invariant-loop-rest l = RestsTo l.source l.rest

abbrev pub decreases-loop-rest : goal.decreases-loop-rest
decreases-loop-rest l = length l.rest
