-- Fields of lines, and what stands behind a front.
use Rattle.std.specs.Prelude.{◌≡◌, ◌≢◌, ℕ, ◌+◌, Bool, true, List, [], ◌∷◌, ◌++◌, take, drop, All, position, Option, None, Some, ◌==◌, if◌then◌else◌}
use Rattle.std.specs.Option.{option_map}

-- what follows from a part that was found
infixl 10 ◌>>=◌
abbrev pub ◌>>=◌ : {A B : Type 0} → Option A → (A → Option B) → Option B
None >>= next = None
(Some x) >>= next = next x

-- the bytes are a front without the separator, the separator, and a back
pub record IsFirstSplit (separator : ℕ) (bytes front back : List ℕ) : Type 0 where
  pub parts : bytes ≡ front ++ separator ∷ back
  pub first : All (λ byte. byte ≢ separator) front

-- what stands before the first separator, and what stands after it, if one stands there
unfoldable pub split_at_first : ℕ → List ℕ → Option (List ℕ × List ℕ)
split_at_first separator bytes =
    option_map (λ at. (take at bytes, drop (at + 1) bytes)) (position (λ byte. byte == separator) bytes)

-- what stands after a front that is given
abbrev pub after : List ℕ → List ℕ → Option (List ℕ)
after [] bytes = Some bytes
after (x ∷ front) [] = None
after (x ∷ front) (byte ∷ bytes) = if byte == x then after front bytes else None

-- two runs of bytes, with one more byte in front of the first
abbrev pub put_front : ℕ → List ℕ × List ℕ → List ℕ × List ℕ
put_front b parts = (b ∷ parts.0, parts.1)

-- the bytes before the first space, and the rest from that space on
abbrev pub first_field : List ℕ → List ℕ × List ℕ
first_field [] = ([], [])
first_field (b ∷ bytes) = if b == 32 then ([], b ∷ bytes) else put_front b (first_field bytes)

-- a field ends before these bytes: before none, or before a space and more
abbrev pub ends_field : List ℕ → Bool
ends_field [] = true
ends_field (byte ∷ bytes) = byte == 32

-- what was read, and the rest, where a field ends before the rest
abbrev pub if_ends : {A : Type 0} → A → List ℕ → Option (A × List ℕ)
if_ends x rest = if ends_field rest then Some (x, rest) else None

-- what is read of the first field, and the rest behind the field
abbrev pub of_first_field : {A : Type 0} → (List ℕ → Option A) → List ℕ → Option (A × List ℕ)
of_first_field read bytes = option_map (λ x. (x, (first_field bytes).1)) (read (first_field bytes).0)
