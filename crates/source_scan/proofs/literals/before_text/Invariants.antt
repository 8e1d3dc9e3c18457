use Rattle.std.proofs.Common.{◌≡◌, ◌++◌, take, drop}
use Rattle.source_scan.specs.Items.{before_text}
use Rattle.source_scan.proofs.literals.before_text.Given as goal

abbrev pub invariant-loop-place : goal.invariant-loop-place
invariant-loop-place l = before_text l.others l.bytes ≡ take l.place l.bytes ++ before_text l.others (drop l.place l.bytes)
