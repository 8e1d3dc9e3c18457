-- Splices: a backslash and the end of its line, which C++ removes outside raw strings.
use Rattle.std.specs.Prelude.{ℕ, ◌&&◌, ◌==◌, if◌then◌else◌, List, [], ◌∷◌}

-- how many bytes the splice at the front has: a backslash and LF, or a backslash, CR and LF; 0 where none stands there
abbrev pub splice_length : List ℕ → ℕ
splice_length [] = 0
splice_length (first ∷ []) = 0
splice_length (first ∷ second ∷ []) = if first == 92 && second == 10 then 2 else 0
splice_length (first ∷ second ∷ third ∷ rest) =
    if first == 92 && second == 10 then 2 else (if first == 92 && second == 13 && third == 10 then 3 else 0)

-- the bytes behind all splices at the front
unfoldable pub past_splices : List ℕ → List ℕ
past_splices [] = []
past_splices (first ∷ []) = first ∷ []
past_splices (first ∷ second ∷ []) = if first == 92 && second == 10 then [] else first ∷ second ∷ []
past_splices (first ∷ second ∷ third ∷ rest) =
    if first == 92 && second == 10 then past_splices (third ∷ rest)
    else (if first == 92 && second == 13 && third == 10 then past_splices rest else first ∷ second ∷ third ∷ rest)
