use Rattle.std.proofs.Common.{◌≡◌, length}
use Rattle.source_scan.specs.Severities.{last_name}
use Rattle.source_scan.proofs.severity.last_name.Given as goal

abbrev pub invariant-loop-rest : goal.invariant-loop-rest
invariant-loop-rest l = last_name l.tokens ≡ last_name l.rest

abbrev pub decreases-loop-rest : goal.decreases-loop-rest
decreases-loop-rest l = length l.rest
