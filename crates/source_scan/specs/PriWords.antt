-- The words of <inttypes.h> that stand for conversions (C11 7.8.1), but for those of the FAST and LEAST kinds.
use Rattle.std.specs.Prelude.{ℕ, Bool, false, ◌&&◌, ◌||◌, ◌==◌, if◌then◌else◌, List, [], ◌∷◌, Option, Some, None}
use Rattle.source_scan.specs.declared.pri_word.PriConversion.{PriConversion}

-- d, i, o, u, x or X
abbrev pub is_pri_letter : ℕ → Bool
is_pri_letter letter =
    letter == 100 || letter == 105 || letter == 111 || letter == 117 || letter == 120 || letter == 88

-- 8, 16 or 32
abbrev pub is_int_width : List ℕ → Bool
is_int_width (first ∷ []) = first == 56
is_int_width (first ∷ second ∷ []) = (first == 49 && second == 54) || (first == 51 && second == 50)
is_int_width _ = false

-- 64, MAX or PTR
abbrev pub is_long_width : List ℕ → Bool
is_long_width (first ∷ second ∷ []) = first == 54 && second == 52
is_long_width (first ∷ second ∷ third ∷ []) =
    (first == 77 && second == 65 && third == 88) || (first == 80 && second == 84 && third == 82)
is_long_width _ = false

-- the conversion of this letter and width
abbrev pub conversion_of : ℕ → List ℕ → Option (List ℕ)
conversion_of letter width =
    if is_int_width width then Some (letter ∷ []) else (if is_long_width width then Some (108 ∷ letter ∷ []) else None)

-- what a word stands for: PRI, a letter and a width
abbrev pub pri_bytes : List ℕ → Option (List ℕ)
pri_bytes (first ∷ second ∷ third ∷ letter ∷ width) =
    if first == 80 && second == 82 && third == 73 && is_pri_letter letter then conversion_of letter width else None
pri_bytes _ = None

-- the same as it is written in a format
abbrev pub conversion_bytes : PriConversion → List ℕ
conversion_bytes conversion = if conversion.is_long then 108 ∷ conversion.letter ∷ [] else conversion.letter ∷ []
