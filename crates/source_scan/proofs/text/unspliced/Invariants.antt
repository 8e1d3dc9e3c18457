use Rattle.std.proofs.Common.{◌≡◌, ◌++◌, length}
use Rattle.source_scan.specs.Texts.{unspliced}
use Rattle.source_scan.proofs.Unsplicing.{from_front}
use Rattle.source_scan.proofs.text.unspliced.Given as goal

abbrev pub invariant-loop-rest : goal.invariant-loop-rest
invariant-loop-rest l = l.text.items ++ from_front l.rest ≡ unspliced l.bytes

abbrev pub decreases-loop-rest : goal.decreases-loop-rest
decreases-loop-rest l = length l.rest
