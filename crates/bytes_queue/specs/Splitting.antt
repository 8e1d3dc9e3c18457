-- Strings that stand one behind another.
use Rattle.std.specs.Prelude.{ℕ, ◌+◌, List, [], ◌∷◌, take, drop}

-- the strings of these lengths that the bytes are made of
abbrev pub split : List ℕ → List ℕ → List (List ℕ)
split [] bytes = []
split (len ∷ lens) bytes = take len bytes ∷ split lens (drop len bytes)

-- how many bytes strings of these lengths have
abbrev pub total : List ℕ → ℕ
total [] = 0
total (len ∷ lens) = len + total lens
