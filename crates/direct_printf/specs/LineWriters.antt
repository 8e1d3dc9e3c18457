-- What is kept for the lines that follow.
use Rattle.std.specs.Prelude.{◌≡◌, ℕ, ◌≤◌, List, take, drop}
use Rattle.std.specs.Fmt.{decimal}

-- the second's digits stand in the text from this place on, up to the place 20
abbrev pub ShowsSecond : ℕ → ℕ → List ℕ → Type 0
ShowsSecond second start text = (start ≤ 20) × (drop start (take 20 text) ≡ decimal second)
