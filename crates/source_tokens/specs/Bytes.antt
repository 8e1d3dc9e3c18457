-- The classes of bytes that tokens are made of.
use Rattle.std.specs.Prelude.{ℕ, Bool, ◌||◌, not, ◌==◌, nat_le}
use Rattle.std.specs.Char.{is_ascii_digit, is_ascii_alphabetic}
use Rattle.source_tokens.specs.declared.class.Class.{Class}
use Rattle.source_tokens.specs.declared.class.Class.TheVariants.{Space, Word, Line}

-- horizontal tab, vertical tab, form feed, carriage return or space
abbrev pub is_space : ℕ → Bool
is_space byte = byte == 9 || byte == 11 || byte == 12 || byte == 13 || byte == 32

-- a letter, `_`, `$` or a byte from 80 hexadecimal up: what an identifier begins with
abbrev pub begins_word : ℕ → Bool
begins_word byte = is_ascii_alphabetic byte || byte == 95 || byte == 36 || nat_le 128 byte

-- what an identifier goes on with
abbrev pub continues_word : ℕ → Bool
continues_word byte = begins_word byte || is_ascii_digit byte

-- a letter, a digit or `_`: what a number goes on with, and what stands behind its `'`
abbrev pub is_number_byte : ℕ → Bool
is_number_byte byte = is_ascii_alphabetic byte || is_ascii_digit byte || byte == 95

-- e, E, p or P
abbrev pub is_exponent : ℕ → Bool
is_exponent byte = byte == 101 || byte == 69 || byte == 112 || byte == 80

abbrev pub is_sign : ℕ → Bool
is_sign byte = byte == 43 || byte == 45

-- no line feed
abbrev pub is_within_line : ℕ → Bool
is_within_line byte = not (byte == 10)

-- the byte is of the class
abbrev pub is_of_class : Class → ℕ → Bool
is_of_class Space byte = is_space byte
is_of_class Word byte = continues_word byte
is_of_class Line byte = is_within_line byte
