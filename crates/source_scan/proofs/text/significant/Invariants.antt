use Rattle.std.proofs.Common.{◌≡◌, take}
use Rattle.source_scan.specs.Texts.{significant}
use Rattle.source_scan.proofs.text.significant.Given as goal

abbrev pub invariant-loop-part : goal.invariant-loop-part
invariant-loop-part l = l.tokens ≡ significant (take l.part-index l.parts)
