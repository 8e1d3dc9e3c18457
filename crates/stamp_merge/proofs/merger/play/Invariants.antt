use Rattle.std.proofs.Common.{◌≡◌, ◌≢◌, ◌≤◌, ◌<◌, ◌+◌, ◌*◌, ◌/◌, ℕ, length, set}
use Rattle.stamp_merge.specs.Winners.{earlier, key_in, own_place}
use Rattle.stamp_merge.proofs.merger.play.Given as goal

-- all matches are won but the one that the key at this place is in
abbrev pub invariant-loop-place : goal.invariant-loop-place
invariant-loop-place l =
    record {
      there : l.place / 2 < length l.winners / 2;
      others : (n : ℕ) → 0 < n → n < length l.winners / 2 → n ≢ l.place / 2
          → key_in l.winners n ≡ earlier (key_in l.winners (2 * n)) (key_in l.winners (2 * n + 1));
      keys : (n : ℕ) → length l.winners / 2 ≤ n
          → key_in l.winners n ≡ key_in (set l.fn.winners (own_place l.fn.winners l.fn.list) l.fn.key) n;
    }

abbrev pub decreases-loop-place : goal.decreases-loop-place
decreases-loop-place l = l.place
