-- What the limits of each version have in common.
use Rattle.std.proofs.Common.{ℕ, ◌≤◌, Bool, true, false, eqb, lit≤}
use Rattle.std.specs.Prelude.{if◌then◌else◌}
use Rattle.session_options.specs.Versions.{most_writers}

-- no version has more writers
pub few_writers : (version : ℕ) → most_writers version ≤ 1024
few_writers version = by_test (eqb version 1)
  where
    by_test : (one : Bool) → (if one then 64 else 1024) ≤ 1024
    by_test true = lit≤ tt
    by_test false = lit≤ tt
