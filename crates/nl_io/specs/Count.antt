-- Counts of faults.
use Rattle.std.specs.Prelude.{◌≡◌, ℕ, ◌+◌, ◌-◌, ◌^◌, ◌≤◌, min, Result, OnOk, OnErr}

-- The count rose in a call: it is greater afterwards, or stands at the last value of a u64, where it stops.
abbrev pub Rose : ℕ → ℕ → Type 0
Rose before after = min (before + 1) (2 ^ 64 - 1) ≤ after

-- one more, in a u64, which stops at its last value
abbrev pub counted : ℕ → ℕ
counted n = min (n + 1) (2 ^ 64 - 1)

-- the count rose by exactly one where the call failed, and else it is as it was
pub record Counts {T E : Type 0} (outcome : Result T E) (before after : ℕ) : Type 0 where
  pub same : OnOk outcome (after ≡ before)
  pub one : OnErr outcome (after ≡ counted before)
  pub more : before ≤ after
