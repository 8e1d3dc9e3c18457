-- Words that are written over others.
use Rattle.std.specs.Prelude.{ℕ, ◌+◌, List, ◌++◌, length, take, drop}

-- the list with these words from this place on, and all else as it is
abbrev pub with_words : List ℕ → ℕ → List ℕ → List ℕ
with_words list at words = take at list ++ (words ++ drop (at + length words) list)
