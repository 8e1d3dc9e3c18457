use Rattle.std.proofs.Common.{◌≡◌, ◌<◌, ℕ, false, get_or}
use Rattle.source_scan.specs.Items.{is_quote}
use Rattle.source_scan.proofs.literals.split_at_quote.Given as goal

abbrev pub invariant-loop-place : goal.invariant-loop-place
invariant-loop-place l = (k : ℕ) → k < l.place → is_quote (get_or l.bytes k 0) ≡ false
