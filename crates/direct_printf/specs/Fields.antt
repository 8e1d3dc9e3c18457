-- What printf writes for a format and its arguments (C11 7.21.6.1, paragraphs 4 to 8), as functions of whole values.
use Rattle.std.specs.Prelude.{ℕ, ◌+◌, ◌-◌, ◌%◌, ◌^◌, Bool, true, false, ◌&&◌, ◌||◌, if◌then◌else◌, ◌==◌, ℤ, pos, unsigned_abs, List, []}
use Rattle.std.specs.Prelude.{◌∷◌, ◌++◌, length, take, drop, replicate, slice_index_or, slice_range, Option, Some, None, is_none, codes}
use Rattle.std.specs.Option.{unwrap_or}
use Rattle.std.specs.Int.{w8, w16, int_wrap, int_rem_euclid, is_negative}
use Rattle.std.specs.Fmt.{digits}
use Rattle.printf_grammar.specs.Pieces.{Parsed}
use Rattle.printf_grammar.specs.Types.{text_of}
use Rattle.printf_grammar.specs.declared.piece.Piece.{Piece}
use Rattle.printf_grammar.specs.declared.piece.Piece.TheVariants as piece
use Rattle.printf_grammar.specs.declared.piece.Spec.{Spec}
use Rattle.printf_grammar.specs.declared.piece.Size.{Size}
use Rattle.printf_grammar.specs.declared.piece.Size.TheVariants.{Absent, Star, Given}
use Rattle.printf_grammar.specs.declared.piece.Length.{Length}
use Rattle.printf_grammar.specs.declared.piece.Length.TheVariants.{Plain, HH, H, L, LL, J, Z, T}
use Rattle.printf_grammar.specs.declared.piece.Conversion.{Conversion}
use Rattle.printf_grammar.specs.declared.piece.Conversion.TheVariants.{D, I, O, U, X, UpperX, C, S, P}
use Rattle.printf_grammar.specs.declared.argument.Value.{Value}
use Rattle.printf_grammar.specs.declared.argument.Value.TheVariants as value

-- the least spelling of v in a base, with zeros in front up to the precision; 0 at precision 0 has no digits (paragraph
-- 8)
unfoldable pub Digits : ℕ → ℕ → Bool → ℕ → List ℕ
Digits v base upper precision =
    let spelled = digits base upper v in
    if v == 0 && precision == 0 then [] else replicate (precision - length spelled) 48 ++ spelled

-- an argument as a signed number; 0 where it is of another kind
abbrev pub signed_of : Value → ℤ
signed_of (value.Signed z) = z
signed_of (value.Unsigned n) = pos 0
signed_of (value.Text bytes) = pos 0

-- an argument as an unsigned number; 0 where it is of another kind
abbrev pub unsigned_of : Value → ℕ
unsigned_of (value.Signed z) = 0
unsigned_of (value.Unsigned n) = n
unsigned_of (value.Text bytes) = 0

-- the value converted to signed char for `hh` and to short for `h`, in two's complement (paragraph 7)
abbrev pub wrap_signed : Length → ℤ → ℤ
wrap_signed Plain z = z
wrap_signed HH z = int_wrap w8 z
wrap_signed H z = int_wrap w16 z
wrap_signed L z = z
wrap_signed LL z = z
wrap_signed J z = z
wrap_signed Z z = z
wrap_signed T z = z

-- the value converted to unsigned char for `hh` and to unsigned short for `h` (paragraph 7)
abbrev pub wrap_unsigned : Length → ℕ → ℕ
wrap_unsigned Plain n = n
wrap_unsigned HH n = n % 2 ^ 8
wrap_unsigned H n = n % 2 ^ 16
wrap_unsigned L n = n
wrap_unsigned LL n = n
wrap_unsigned J n = n
wrap_unsigned Z n = n
wrap_unsigned T n = n

-- how many arguments a width or a precision takes: a `*` takes one (paragraph 5)
abbrev pub stars : Size → ℕ
stars Absent = 0
stars Star = 1
stars (Given n) = 0

-- the width, where `argument` is that of its `*`: a negative one is the flag `-` and the positive width (paragraph 5)
abbrev pub width_of : Size → ℤ → ℕ
width_of Absent argument = 0
width_of Star argument = unsigned_abs argument
width_of (Given n) argument = n

-- a `*` as the width has taken a negative argument
abbrev pub is_left_star : Size → ℤ → Bool
is_left_star Absent argument = false
is_left_star Star argument = is_negative argument
is_left_star (Given n) argument = false

-- the precision, where `argument` is that of its `*`: a negative one counts as omitted (paragraph 5)
abbrev pub precision_of : Size → ℤ → Option ℕ
precision_of Absent argument = None
precision_of Star argument = if is_negative argument then None else Some (unsigned_abs argument)
precision_of (Given n) argument = Some n

-- a converted value before it is padded: its sign or prefix, and its digits or bytes
pub record Converted : Type 0 where
  pub front : List ℕ
  pub body : List ℕ

-- the sign of d and i: `-` for a negative value, else `+` or a space by the flags (paragraph 6)
abbrev pub sign_of : Spec → ℤ → List ℕ
sign_of spec z =
    if is_negative z then 45 ∷ [] else (if spec.plus then 43 ∷ [] else (if spec.space then 32 ∷ [] else []))

-- d and i: the sign, and the decimal digits, which are at least as many as the precision, 1 if omitted (paragraph 8)
abbrev pub signed_number : Spec → Option ℕ → ℤ → Converted
signed_number spec precision z =
    record { front = sign_of spec z; body = Digits (unsigned_abs z) 10 false (unwrap_or precision 1) }

-- u: the decimal digits alone
abbrev pub unsigned_number : Option ℕ → ℕ → Converted
unsigned_number precision n = record { front = []; body = Digits n 10 false (unwrap_or precision 1) }

-- the digits begin with `0`
abbrev pub begins_with_zero : List ℕ → Bool
begins_with_zero [] = false
begins_with_zero (first ∷ others) = first == 48

-- with `#` one 0 more where octal digits do not begin with 0 (paragraph 6)
abbrev pub octal_front : Bool → List ℕ → List ℕ
octal_front sharp spelled = if sharp then (if begins_with_zero spelled then [] else 48 ∷ []) else []

-- o: the octal digits
abbrev pub octal_number : Bool → Option ℕ → ℕ → Converted
octal_number sharp precision n =
    let spelled = Digits n 8 false (unwrap_or precision 1) in
    record { front = octal_front sharp spelled; body = spelled }

-- with `#` the prefix of hexadecimal digits where the value is not 0 (paragraph 6)
abbrev pub hexadecimal_front : Bool → Bool → ℕ → List ℕ
hexadecimal_front sharp upper n =
    if sharp then (if n == 0 then [] else (if upper then codes "0X" else codes "0x")) else []

-- x and X: the hexadecimal digits, in lower case or in capitals
abbrev pub hexadecimal_number : Bool → Bool → Option ℕ → ℕ → Converted
hexadecimal_number sharp upper precision n =
    record { front = hexadecimal_front sharp upper n; body = Digits n 16 upper (unwrap_or precision 1) }

-- p: the hexadecimal digits after `0x`, and `(nil)` for 0
abbrev pub pointer : ℕ → Converted
pointer n = if n == 0 then record { front = []; body = codes "(nil)" } else hexadecimal_number true false None n

-- s: the bytes of the text, at most as many as the precision where there is one (paragraph 8)
abbrev pub cut : Option ℕ → List ℕ → List ℕ
cut None text = text
cut (Some most) text = take most text

-- each conversion's text before padding (paragraph 8); c gives the byte of its argument modulo 256
abbrev pub converted : Conversion → Spec → Option ℕ → Value → Converted
converted D spec precision argument = signed_number spec precision (wrap_signed spec.length (signed_of argument))
converted I spec precision argument = signed_number spec precision (wrap_signed spec.length (signed_of argument))
converted U spec precision argument = unsigned_number precision (wrap_unsigned spec.length (unsigned_of argument))
converted O spec precision argument =
    octal_number spec.sharp precision (wrap_unsigned spec.length (unsigned_of argument))
converted X spec precision argument =
    hexadecimal_number spec.sharp false precision (wrap_unsigned spec.length (unsigned_of argument))
converted UpperX spec precision argument =
    hexadecimal_number spec.sharp true precision (wrap_unsigned spec.length (unsigned_of argument))
converted C spec precision argument =
    record { front = []; body = unsigned_abs (int_rem_euclid (signed_of argument) (pos 256)) ∷ [] }
converted S spec precision argument = record { front = []; body = cut precision (text_of argument) }
converted P spec precision argument = pointer (unsigned_of argument)

-- the conversion spells an integer, so that the flag `0` may pad it (paragraph 6)
abbrev pub is_integer : Conversion → Bool
is_integer D = true
is_integer I = true
is_integer O = true
is_integer U = true
is_integer X = true
is_integer UpperX = true
is_integer C = false
is_integer S = false
is_integer P = false

-- the text at least as long as the width: spaces behind it, or zeros after its sign or prefix, or spaces before it
-- (paragraphs 4 and 6)
abbrev pub padded : Bool → Bool → ℕ → Converted → List ℕ
padded left zeros width text =
    let missing = width - length (text.front ++ text.body) in
    if left then text.front ++ text.body ++ replicate missing 32
    else (if zeros then text.front ++ replicate missing 48 ++ text.body
    else replicate missing 32 ++ text.front ++ text.body)

-- the argument at a place
abbrev pub argument_at : List Value → ℕ → Value
argument_at arguments place = slice_index_or arguments place (value.Signed (pos 0))

-- what one field writes, where `arguments` are its own: for its width, for its precision, and the value (paragraph 4)
unfoldable pub Field : Spec → List Value → List ℕ
Field spec arguments =
    let width = signed_of (argument_at arguments 0) in
    let precision = precision_of spec.precision (signed_of (argument_at arguments (stars spec.width))) in
    let argument = argument_at arguments (stars spec.width + stars spec.precision) in
    padded (spec.minus || is_left_star spec.width width)
    (spec.zero && is_integer spec.conversion && is_none precision)
    (width_of spec.width width)
    (converted spec.conversion spec precision argument)

-- how many arguments a field takes
abbrev pub argument_count : Spec → ℕ
argument_count spec = stars spec.width + stars spec.precision + 1

-- the pieces' texts, joined: a literal's bytes of the format, `%` for `%%`, and each field with its own arguments in
-- order (paragraph 3)
unfoldable pub pieces_text : List ℕ → List Piece → List Value → List ℕ
pieces_text format [] arguments = []
pieces_text format (piece.Literal start end ∷ pieces) arguments =
    slice_range format start end ++ pieces_text format pieces arguments
pieces_text format (piece.Percent ∷ pieces) arguments = 37 ∷ pieces_text format pieces arguments
pieces_text format (piece.Field spec ∷ pieces) arguments =
    Field spec (take (argument_count spec) arguments)
    ++ pieces_text format pieces (drop (argument_count spec) arguments)

-- what printf writes for the format and the arguments
unfoldable pub Text : Parsed → List Value → List ℕ
Text format arguments = pieces_text format.bytes format.pieces arguments
