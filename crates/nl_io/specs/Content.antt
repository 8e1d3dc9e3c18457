-- What an object tells of its bytes: Some of them, or None where it doesn't tell.
use Rattle.std.specs.Prelude.{◌≡◌, ℕ, ◌≤◌, List, [], ◌++◌, length, take, drop, Option, Some, None, option_map}

abbrev pub Told : Type 0
Told = Option (List ℕ)

-- the content without its first n bytes
abbrev pub without_front : ℕ → Told → Told
without_front n told = option_map (drop n) told

-- the content with these bytes at its end
abbrev pub with_end : List ℕ → Told → Told
with_end bytes told = option_map (λ content. content ++ bytes) told

-- these bytes are the first n of the content, where it is told
abbrev pub IsFront : ℕ → List ℕ → Told → Type 0
IsFront n bytes None = Unit {0}
IsFront n bytes (Some content) = (n ≤ length content) × (bytes ≡ take n content)

-- nothing is left, where that is told
abbrev pub IsAtEnd : Told → Type 0
IsAtEnd None = Unit {0}
IsAtEnd (Some content) = content ≡ []

-- some of the bytes, from their front, were put at the end
abbrev pub PutsFront : List ℕ → Told → Told → Type 0
PutsFront bytes old new = (n : ℕ) × (n ≤ length bytes) × (new ≡ with_end (take n bytes) old)

-- These bytes came: they stood at the front of what was left, and no longer stand there.
abbrev pub Came : List ℕ → Told → Told → Type 0
Came bytes None new = new ≡ None
Came bytes (Some content) new = (others : List ℕ) × (content ≡ bytes ++ others) × (new ≡ Some others)

-- at most so many bytes were taken, from the front
abbrev pub TakesFront : ℕ → Told → Told → Type 0
TakesFront most old new = (n : ℕ) × (n ≤ most) × (new ≡ without_front n old)
