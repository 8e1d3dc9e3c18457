-- What the literals of a source stand for (C++ [lex.ccon], [lex.string], with `\e` as some compilers have it).
use Rattle.std.specs.Prelude.{ℕ, zero, suc, ◌+◌, Bool, ◌&&◌, ◌||◌, ◌==◌, nat_lt, nat_le, if◌then◌else◌}
use Rattle.std.specs.Prelude.{List, [], ◌∷◌, ◌++◌, length, take, take_while, Option, Some, None, encode_utf8}
use Rattle.std.specs.Option.{option_map}
use Rattle.std.specs.Char.{is_digit}
use Rattle.std.specs.Str.Parse.{digits_value}
use Rattle.source_scan.specs.declared.escape.TheConstants.{MAX_OCTAL, SHORT_CHARACTER, LONG_CHARACTER}
use Rattle.source_scan.specs.declared.escape.TheConstants.{MAX_BYTE, MAX_CHARACTER}
use Rattle.source_scan.specs.declared.escape.Meaning.{Meaning}
use Rattle.source_scan.specs.declared.escape.Meaning.TheVariants.{Byte, Character}

-- the bytes that a part of a literal stands for: a byte, or a character in UTF-8
abbrev pub meaning_bytes : Meaning → List ℕ
meaning_bytes (Byte byte) = byte ∷ []
meaning_bytes (Character code) = encode_utf8 code

-- ---- escapes

-- the byte of an escape of one letter, which is none of a number
abbrev pub letter_escape : ℕ → Option ℕ
letter_escape letter =
    if letter == 39 || letter == 34 || letter == 63 || letter == 92 then Some letter
    else (if letter == 97 then Some 7
    else (if letter == 98 then Some 8
    else (if letter == 102 then Some 12
    else (if letter == 110 then Some 10
    else (if letter == 114 then Some 13
    else (if letter == 116 then Some 9
    else (if letter == 118 then Some 11
    else (if letter == 101 then Some 27
    else None))))))))

-- the digits of this radix, at most so many, with which the bytes begin
abbrev pub digits_of : ℕ → ℕ → List ℕ → List ℕ
digits_of radix most bytes = take_while (λ byte. is_digit byte radix) (take most bytes)

-- the byte of these digits: there is one at least, and they are no more than 255
abbrev pub byte_of : ℕ → List ℕ → Option Meaning
byte_of radix digits =
    if nat_le 1 (length digits) && nat_le (digits_value radix digits) MAX_BYTE
    then Some (Byte (digits_value radix digits)) else None

-- a code of a character, and no surrogate
abbrev pub is_scalar : ℕ → Bool
is_scalar code = nat_lt code 0xd800 || (nat_le 0xe000 code && nat_le code MAX_CHARACTER)

-- the character of exactly so many hexadecimal digits
abbrev pub character_of : ℕ → List ℕ → Option Meaning
character_of count digits =
    if length digits == count && is_scalar (digits_value 16 digits)
    then Some (Character (digits_value 16 digits)) else None

-- a meaning, and how many bytes it is spelled by
abbrev pub spelled_by : ℕ → Option Meaning → Option (Meaning × ℕ)
spelled_by length meaning = option_map (λ (one : Meaning). (one, length)) meaning

-- the escape of the octal digits that these bytes begin with
abbrev pub octal_escape : List ℕ → Option (Meaning × ℕ)
octal_escape bytes = spelled_by (length (digits_of 8 MAX_OCTAL bytes)) (byte_of 8 (digits_of 8 MAX_OCTAL bytes))

-- the escape of `x` and the hexadecimal digits that these bytes begin with
abbrev pub hexadecimal_escape : List ℕ → Option (Meaning × ℕ)
hexadecimal_escape bytes =
    spelled_by (1 + length (digits_of 16 (length bytes) bytes)) (byte_of 16 (digits_of 16 (length bytes) bytes))

-- the escape of `u` or `U` and so many hexadecimal digits that these bytes begin with
abbrev pub character_escape : ℕ → List ℕ → Option (Meaning × ℕ)
character_escape count bytes = spelled_by (1 + count) (character_of count (digits_of 16 count bytes))

-- what an escape stands for that goes on with these bytes behind its backslash, and how many of them are its own
abbrev pub escape_of : List ℕ → Option (Meaning × ℕ)
escape_of [] = None
escape_of (letter ∷ bytes) =
    if is_digit letter 8 then octal_escape (letter ∷ bytes)
    else (if letter == 120 then hexadecimal_escape bytes
    else (if letter == 117 then character_escape SHORT_CHARACTER bytes
    else (if letter == 85 then character_escape LONG_CHARACTER bytes
    else spelled_by 1 (option_map Byte (letter_escape letter)))))

-- ---- literals

-- what the part of a literal stands for that begins with this byte, and how many bytes behind it are part of it
abbrev pub part_of : ℕ → List ℕ → Option (Meaning × ℕ)
part_of first bytes = if first == 92 then escape_of bytes else Some (Byte first, 0)

-- what a part and the bytes behind its own stand for
abbrev pub joined_part : Option (Meaning × ℕ) → (ℕ → Option (List ℕ)) → Option (List ℕ)
joined_part None behind = None
joined_part (Some part) behind = option_map (λ (more : List ℕ). meaning_bytes part.0 ++ more) (behind part.1)

-- what the bytes between the marks of a literal stand for, where so many at the front belong to a part before them
unfoldable pub unescaped_behind : ℕ → List ℕ → Option (List ℕ)
unescaped_behind own [] = Some []
unescaped_behind (suc own) (byte ∷ bytes) = unescaped_behind own bytes
unescaped_behind zero (byte ∷ bytes) = joined_part (part_of byte bytes) (λ others. unescaped_behind others bytes)

-- what the bytes between the marks of a literal stand for, if each escape is one
abbrev pub unescaped_literal : List ℕ → Option (List ℕ)
unescaped_literal bytes = unescaped_behind 0 bytes
