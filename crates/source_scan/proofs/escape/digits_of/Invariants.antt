use Rattle.std.proofs.Common.{◌≡◌, ◌<◌, ℕ, true, get_or}
use Rattle.std.specs.Char.{is_digit}
use Rattle.source_scan.proofs.escape.digits_of.Given as goal

abbrev pub invariant-loop-place : goal.invariant-loop-place
invariant-loop-place l = (k : ℕ) → k < l.place → is_digit (get_or l.front k 0) l.radix ≡ true
