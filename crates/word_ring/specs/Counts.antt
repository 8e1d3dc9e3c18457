-- Counts of steps, which stop at the last value of a u64.
use Rattle.std.specs.Prelude.{ℕ, ◌-◌, ◌^◌, ◌≤◌}
use Rattle.ring_core.specs.Counts.{RisesBy}

-- a count is within the range of a u64
abbrev pub IsCount : ℕ → Type 0
IsCount n = n ≤ 2 ^ 64 - 1

-- so many steps were counted at most: the count stays within its range, and rises
pub record CountsSteps (most before now : ℕ) : Type 0 where
  pub range : IsCount before → IsCount now
  pub rises : IsCount before → RisesBy most before now
