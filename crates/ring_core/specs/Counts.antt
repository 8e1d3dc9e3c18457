-- How counts rise.
use Rattle.std.specs.Prelude.{ℕ, ◌+◌, ◌≤◌}

-- the count rose by so much at most
abbrev pub RisesBy : ℕ → ℕ → ℕ → Type 0
RisesBy most before now = (before ≤ now) × (now ≤ before + most)
