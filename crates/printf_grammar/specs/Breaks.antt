-- Where bytes break the grammar of formats, and why (C11 7.21.6.1, and this library's limits).
use Rattle.std.specs.Prelude.{◌≡◌, ◌⊎◌, ℕ, ◌+◌, ◌<◌, ◌≤◌, Bool, true, false, not, ◌&&◌, ◌||◌, ◌==◌, nat_lt, if◌then◌else◌, List, [], ◌∷◌}
use Rattle.std.specs.Prelude.{◌++◌, length, drop, slice_get, codes, Option, Some, None, IfSome}
use Rattle.std.specs.Char.{is_digit}
use Rattle.std.specs.List.{AllByRecursion, count_by}
use Rattle.std.specs.Str.Parse.{digits_value}
use Rattle.printf_grammar.specs.declared.limits.TheConstants.{MAX_ARGUMENTS, MAX_FORMAT, MAX_SIZE}
use Rattle.printf_grammar.specs.declared.fault.FormatCause.{FormatCause}
use Rattle.printf_grammar.specs.declared.fault.FormatCause.TheVariants.{Float, Wide, Store, BadPercent, BadLength, Unknown, TooWide, Ends}
use Rattle.printf_grammar.specs.declared.fault.FormatCause.TheVariants.{Nul, TooManyArgs, Long}
use Rattle.printf_grammar.specs.declared.piece.Piece.{Piece}
use Rattle.printf_grammar.specs.declared.piece.Size.{Size}
use Rattle.printf_grammar.specs.declared.piece.Length.{Length}
use Rattle.printf_grammar.specs.Spelling.{IsFlag, stands, SpellsWidth, SpellsPrecision, length_bytes, SpelledFrom, AreApart}
use Rattle.printf_grammar.specs.Types.{Types}

-- ---- an unfinished field

-- what stands of a field behind its `%`, part by part
pub record Head : Type 0 where
  pub flags : List ℕ
  pub width : List ℕ
  pub precision : List ℕ
  pub modifier : List ℕ

abbrev pub head_bytes : Head → List ℕ
head_bytes head = 37 ∷ (head.flags ++ head.width ++ head.precision ++ head.modifier)

-- a length modifier, or `L`, which is read as one before its conversion is judged
abbrev pub IsModifier : List ℕ → Type 0
IsModifier bytes = ((modifier : Length) × (bytes ≡ length_bytes modifier)) ⊎ (bytes ≡ codes "L")

-- each part is right so far
pub record IsHead (head : Head) : Type 0 where
  pub flags : AllByRecursion IsFlag head.flags
  pub width : (size : Size) × SpellsWidth head.width size
  pub precision : (size : Size) × SpellsPrecision head.precision size
  pub modifier : IsModifier head.modifier

-- ---- what a byte may do there

abbrev pub is_empty : List ℕ → Bool
is_empty [] = true
is_empty (byte ∷ bytes) = false

-- the bytes are this one alone
abbrev pub is_only : ℕ → List ℕ → Bool
is_only byte [] = false
is_only byte (first ∷ bytes) = first == byte && is_empty bytes

-- a `*` stands in the part
abbrev pub has_star : List ℕ → Bool
has_star bytes = stands 42 bytes

-- nothing stands behind the `%`
abbrev pub is_empty_head : Head → Bool
is_empty_head head = is_empty head.flags && is_empty head.width && is_empty head.precision && is_empty head.modifier

abbrev pub takes_flag : Head → ℕ → Bool
takes_flag head byte =
    stands byte (codes "-+ #0") && is_empty head.width && is_empty head.precision && is_empty head.modifier

abbrev pub takes_width_star : Head → ℕ → Bool
takes_width_star head byte = byte == 42 && is_empty head.width && is_empty head.precision && is_empty head.modifier

abbrev pub takes_width_digit : Head → ℕ → Bool
takes_width_digit head byte =
    is_digit byte 10 && not (has_star head.width) && is_empty head.precision && is_empty head.modifier

abbrev pub takes_period : Head → ℕ → Bool
takes_period head byte = byte == 46 && is_empty head.precision && is_empty head.modifier

abbrev pub takes_precision_star : Head → ℕ → Bool
takes_precision_star head byte = byte == 42 && is_only 46 head.precision && is_empty head.modifier

abbrev pub takes_precision_digit : Head → ℕ → Bool
takes_precision_digit head byte =
    is_digit byte 10 && not (is_empty head.precision) && not (has_star head.precision) && is_empty head.modifier

-- a first length byte or `L`, or a second `h` or `l`
abbrev pub takes_modifier : Head → ℕ → Bool
takes_modifier head byte =
    (stands byte (codes "hljztL") && is_empty head.modifier) || (byte == 104 && is_only 104 head.modifier)
    || (byte == 108 && is_only 108 head.modifier)

abbrev pub is_conversion : ℕ → Bool
is_conversion byte = stands byte (codes "diouxXcsp")

-- the byte goes on with the field or ends it; that it is within the limits is not said here
abbrev pub goes_on : Head → ℕ → Bool
goes_on head byte =
    takes_flag head byte || takes_width_star head byte || takes_width_digit head byte || takes_period head byte
    || takes_precision_star head byte || takes_precision_digit head byte || takes_modifier head byte
    || is_conversion byte || (byte == 37 && is_empty_head head)

-- ---- the causes

-- one of `aAeEfFgG`
abbrev pub is_float : ℕ → Bool
is_float byte = stands byte (codes "aAeEfFgG")

-- `lc` or `ls`
abbrev pub is_wide : Head → ℕ → Bool
is_wide head byte = stands byte (codes "cs") && is_only 108 head.modifier

-- c, s or p after a length, or any conversion after `L`
abbrev pub is_bad_length : Head → ℕ → Bool
is_bad_length head byte =
    (stands byte (codes "csp") && not (is_empty head.modifier)) || (is_conversion byte && is_only 76 head.modifier)

-- the digit makes the width or the precision greater than its limit
abbrev pub is_too_wide : Head → ℕ → Bool
is_too_wide head byte =
    (takes_width_digit head byte && nat_lt MAX_SIZE (digits_value 10 (head.width ++ byte ∷ [])))
    || (takes_precision_digit head byte && nat_lt MAX_SIZE (digits_value 10 (drop 1 head.precision ++ byte ∷ [])))

-- a `*` or a conversion
abbrev pub takes_argument : Head → ℕ → Bool
takes_argument head byte = takes_width_star head byte || takes_precision_star head byte || is_conversion byte

-- why the byte can't stand behind this head, if it can't, where `count` arguments were taken; the first cause in the
-- order of the list
abbrev pub cause_in : Head → ℕ → ℕ → Option FormatCause
cause_in head count byte =
    if is_float byte then Some Float
    else (if is_wide head byte then Some Wide
    else (if byte == 110 then Some Store
    else (if byte == 37 && not (is_empty_head head) then Some BadPercent
    else (if is_bad_length head byte then Some BadLength
    else (if not (byte == 0) && not (goes_on head byte) then Some Unknown
    else (if is_too_wide head byte then Some TooWide
    else (if byte == 0 then Some Nul
    else (if takes_argument head byte && count == MAX_ARGUMENTS then Some TooManyArgs
    else None))))))))

-- why the bytes can't go on with this byte, or can't end, if they can't; `head` is a field that is unfinished there
abbrev pub cause_at : Option Head → ℕ → Option ℕ → Option FormatCause
cause_at (Some head) count (Some byte) = cause_in head count byte
cause_at (Some head) count None = Some Ends
cause_at None count (Some byte) = if byte == 0 then Some Nul else None
cause_at None count None = None

-- ---- the place of the break

abbrev pub unfinished_bytes : Option Head → List ℕ
unfinished_bytes None = []
unfinished_bytes (Some head) = head_bytes head

-- how many arguments the unfinished field has taken: one for each `*`
abbrev pub unfinished_stars : Option Head → ℕ
unfinished_stars None = 0
unfinished_stars (Some head) = count_by (λ byte. byte == 42) (head.width ++ head.precision)

-- the bytes are whole pieces and perhaps an unfinished field, all right so far, and take this many arguments
pub record ReadsTo (bytes : List ℕ) (head : Option Head) (count : ℕ) : Type 0 where
  pub pieces : List Piece
  pub whole : List ℕ
  pub joined : bytes ≡ whole ++ unfinished_bytes head
  pub spelled : SpelledFrom 0 whole pieces
  pub apart : AreApart pieces
  pub right : IfSome head IsHead
  pub count_is : count ≡ length (Types pieces) + unfinished_stars head
  pub few : count ≤ MAX_ARGUMENTS

-- more bytes than a format has, which comes before all else
pub record IsLong (bytes : List ℕ) (cause : FormatCause) (place : ℕ) : Type 0 where
  pub long : MAX_FORMAT < length bytes
  pub cause_is : cause ≡ Long
  pub place_is : place ≡ MAX_FORMAT

-- the bytes before the place are right so far, and can't go on there
pub record BreaksAt (bytes : List ℕ) (cause : FormatCause) (place : ℕ) : Type 0 where
  pub short : length bytes ≤ MAX_FORMAT
  pub before : List ℕ
  pub after : List ℕ
  pub joined : bytes ≡ before ++ after
  pub place_is : place ≡ length before
  pub head : Option Head
  pub count : ℕ
  pub right : ReadsTo before head count
  pub stops : cause_at head count (slice_get after 0) ≡ Some cause

-- the bytes are no format: they break at this place, from this cause
abbrev pub FormatBreak : List ℕ → FormatCause → ℕ → Type 0
FormatBreak bytes cause place = IsLong bytes cause place ⊎ BreaksAt bytes cause place
