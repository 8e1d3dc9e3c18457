-- Texts as they stand between quotation marks.
use Rattle.std.specs.Prelude.{◌≡◌, ◌≢◌, ℕ, ◌+◌, ◌*◌, ◌≤◌, Bool, List, [], ◌∷◌, ◌++◌, codes, ◌⊎◌, Option, Some, None, ◌==◌, nat_le, nat_lt}
use Rattle.std.specs.Prelude.{◌&&◌, ◌||◌, not, if◌then◌else◌, length}
use Rattle.std.specs.List.{list_any}
use Rattle.std.specs.Option.{option_map_or}
use Rattle.std.specs.Char.{digit_value, IsAsciiHexdigit}

-- a byte that stands for itself: printable ASCII other than the quotation mark and the backslash, or a byte from 80 to
-- ff
abbrev pub IsPlain : ℕ → Type 0
IsPlain b = ((32 ≤ b) × (b ≤ 126) × (b ≢ 34) × (b ≢ 92)) ⊎ ((128 ≤ b) × (b ≤ 255))

-- a byte of a text as it is spelled: itself, one of the escapes `\"`, `\\`, `\n` and `\t`, or `\x` and two hexadecimal
-- digits
pub data SpellsByte (unit : List ℕ) (b : ℕ) : Type 0 where
  itself : IsPlain b → unit ≡ b ∷ [] → SpellsByte unit b
  quotation_mark : unit ≡ codes "\\\"" → b ≡ 34 → SpellsByte unit b
  backslash : unit ≡ codes "\\\\" → b ≡ 92 → SpellsByte unit b
  line_feed : unit ≡ codes "\\n" → b ≡ 10 → SpellsByte unit b
  tab : unit ≡ codes "\\t" → b ≡ 9 → SpellsByte unit b
  hexadecimal : (high low : ℕ) → IsAsciiHexdigit high → IsAsciiHexdigit low → unit ≡ codes "\\x" ++ high ∷ low ∷ []
      → b ≡ 16 * digit_value high + digit_value low → SpellsByte unit b

-- a text's spelling is the spellings of its bytes, joined
abbrev pub SpellsText : List ℕ → List ℕ → Type 0
SpellsText spelled [] = spelled ≡ []
SpellsText spelled (b ∷ bytes) =
    (unit : List ℕ) × (rest : List ℕ) × (spelled ≡ unit ++ rest) × SpellsByte unit b × SpellsText rest bytes

-- the bytes begin with a text in quotation marks that stands for `value`, and the rest follows its closing mark
pub record OpensText (bytes value rest : List ℕ) : Type 0 where
  pub spelled : List ℕ
  pub whole : bytes ≡ 34 ∷ spelled ++ 34 ∷ rest
  pub spells : SpellsText spelled value

-- ---- reading a text byte by byte

-- where the next byte of a text stands: in no escape, or behind a backslash, `\x`, or `\x` and a digit of a value
pub data TextPlace : Type 0 where
  outside : TextPlace
  behind_backslash : TextPlace
  behind_x : TextPlace
  behind_digit : ℕ → TextPlace

-- what a byte does to a text: it ends it, is part of an escape, ends the spelling of one byte, or mustn't stand there
pub data TextStep : Type 0 where
  ends : TextStep
  goes_on : TextPlace → TextStep
  gives : ℕ → TextStep
  breaks : TextStep

-- a byte stands for itself
abbrev pub is_plain : ℕ → Bool
is_plain b = (nat_le 32 b && nat_le b 126 && not (b == 34) && not (b == 92)) || (nat_le 128 b && nat_le b 255)

-- a byte is a hexadecimal digit
abbrev pub is_hexadecimal : ℕ → Bool
is_hexadecimal b = nat_lt (digit_value b) 16

-- what each byte does at each place
abbrev pub text_step : TextPlace → ℕ → TextStep
text_step outside b =
    if b == 34 then ends else (if b == 92 then goes_on behind_backslash else (if is_plain b then gives b else breaks))
text_step behind_backslash b =
    if b == 34 then gives 34
    else (if b == 92 then gives 92
    else (if b == 110 then gives 10
    else (if b == 116 then gives 9
    else (if b == 120 then goes_on behind_x else breaks))))
text_step behind_x b = if is_hexadecimal b then goes_on (behind_digit (digit_value b)) else breaks
text_step (behind_digit high) b = if is_hexadecimal b then gives (16 * high + digit_value b) else breaks

-- the value of a hexadecimal digit
abbrev pub hexadecimal_of : ℕ → Option ℕ
hexadecimal_of b = if is_hexadecimal b then Some (digit_value b) else None

-- the byte of a text that is spelled from a place on, and what follows its spelling
unfoldable pub unit_from : TextPlace → List ℕ → Option (ℕ × List ℕ)
unit_from place [] = None
unit_from place (b ∷ bytes) = elim (text_step place b) [
  | ends ↦ None
  | goes_on next ↦ unit_from next bytes
  | gives byte ↦ Some (byte, bytes)
  | breaks ↦ None
]

-- a text that goes on with these bytes, with one more byte in front
abbrev pub with_first_byte : ℕ → Option (List ℕ × List ℕ) → Option (List ℕ × List ℕ)
with_first_byte b None = None
with_first_byte b (Some text) = Some (b ∷ text.0, text.1)

-- what the bytes from a place of a text on stand for up to the closing mark, and what follows it
unfoldable pub text_from : TextPlace → List ℕ → Option (List ℕ × List ℕ)
text_from place [] = None
text_from place (b ∷ bytes) = elim (text_step place b) [
  | ends ↦ Some ([], bytes)
  | goes_on next ↦ text_from next bytes
  | gives byte ↦ with_first_byte byte (text_from outside bytes)
  | breaks ↦ None
]

-- the text in quotation marks that the bytes begin with, and what follows it
abbrev pub text_at : List ℕ → Option (List ℕ × List ℕ)
text_at [] = None
text_at (b ∷ bytes) = if b == 34 then text_from outside bytes else None

-- what a text's spelling stands for
abbrev pub unescaped : List ℕ → List ℕ
unescaped spelled = option_map_or (λ text. text.0) (text_from outside (spelled ++ 34 ∷ [])) []

-- a byte 0 is among the bytes
abbrev pub has_nul : List ℕ → Bool
has_nul bytes = list_any (λ b. b == 0) bytes

-- the spelling is one, and stands for so many bytes, with a byte 0 among them or not
pub record IsSpelled (spelled : List ℕ) (len : ℕ) (nul : Bool) : Type 0 where
  pub whole : text_from outside (spelled ++ 34 ∷ []) ≡ Some (unescaped spelled, [])
  pub len_is : len ≡ length (unescaped spelled)
  pub nul_is : nul ≡ has_nul (unescaped spelled)
