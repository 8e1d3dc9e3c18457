use Rattle.std.proofs.Common.{◌≡◌, false, ℕ, ◌<◌}
use Rattle.stamp_merge.specs.Mergers.{list_at, wants}
use Rattle.stamp_merge.proofs.merger.first_wanting.Given as goal

-- none of the lists in front of the place wants a head
abbrev pub invariant-loop-place : goal.invariant-loop-place
invariant-loop-place l = (n : ℕ) → n < l.place → wants (list_at l.lists n) ≡ false
