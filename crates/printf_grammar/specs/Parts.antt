-- What bytes begin with: the parts of a field, each as long as it can be, a piece, or a break.
use Rattle.std.specs.Prelude.{◌≡◌, ℕ, ◌+◌, ◌<◌, ◌≤◌, Bool, true, false, not, ◌&&◌, ◌||◌, ◌==◌, List, [], ◌∷◌, ◌++◌, length, slice_get}
use Rattle.std.specs.Prelude.{codes, Option, Some, IfSome, ⊤}
use Rattle.std.specs.Char.{is_digit}
use Rattle.std.specs.List.{AllByRecursion}
use Rattle.std.specs.Str.Parse.{digits_value}
use Rattle.printf_grammar.specs.declared.limits.TheConstants.{MAX_ARGUMENTS, MAX_SIZE}
use Rattle.printf_grammar.specs.declared.fault.FormatCause.{FormatCause}
use Rattle.printf_grammar.specs.declared.fault.FormatCause.TheVariants.{TooWide}
use Rattle.printf_grammar.specs.declared.piece.Piece.{Piece}
use Rattle.printf_grammar.specs.declared.piece.Piece.TheVariants.{Literal}
use Rattle.printf_grammar.specs.declared.piece.Spec.{Spec}
use Rattle.printf_grammar.specs.declared.piece.Size.{Size}
use Rattle.printf_grammar.specs.declared.piece.Length.{Length}
use Rattle.printf_grammar.specs.declared.piece.Conversion.{Conversion}
use Rattle.printf_grammar.specs.declared.parts.Flags.{Flags}
use Rattle.printf_grammar.specs.declared.parts.Modifier.{Modifier}
use Rattle.printf_grammar.specs.declared.parts.Modifier.TheVariants.{Known, LongDouble}
use Rattle.printf_grammar.specs.Spelling.{IsFlag, stands, SpellsWidth, SpellsPrecision, SpellsDigits, SpellsField, SpellsPiece}
use Rattle.printf_grammar.specs.Spelling.{TakesLength, conversion_byte, length_bytes}
use Rattle.printf_grammar.specs.Breaks.{Head, head_bytes, IsHead, is_empty, is_only, is_empty_head, has_star, cause_at, takes_flag}
use Rattle.printf_grammar.specs.Breaks.{takes_width_star, takes_width_digit, takes_period, takes_precision_star, takes_precision_digit}
use Rattle.printf_grammar.specs.Breaks.{takes_modifier, unfinished_bytes, unfinished_stars}
use Rattle.printf_grammar.specs.Types.{field_types, piece_types}

-- the first of the bytes, if there is one, fails the test
abbrev pub BeginsWithout : (ℕ → Bool) → List ℕ → Type 0
BeginsWithout test [] = ⊤
BeginsWithout test (byte ∷ bytes) = test byte ≡ false

-- ---- the parts of a field

abbrev pub is_flag : ℕ → Bool
is_flag byte = stands byte (codes "-+ #0")

pub record BeginsWithFlags (bytes : List ℕ) (flags : Flags) (rest : List ℕ) : Type 0 where
  pub front : List ℕ
  pub joined : bytes ≡ front ++ rest
  pub are_flags : AllByRecursion IsFlag front
  pub minus : flags.minus ≡ stands 45 front
  pub plus : flags.plus ≡ stands 43 front
  pub space : flags.space ≡ stands 32 front
  pub sharp : flags.sharp ≡ stands 35 front
  pub zero : flags.zero ≡ stands 48 front
  pub ended : BeginsWithout is_flag rest

-- digits of a number up to the limit, perhaps none
pub record BeginsWithDigits (bytes : List ℕ) (n : ℕ) (rest : List ℕ) : Type 0 where
  pub digits : List ℕ
  pub joined : bytes ≡ digits ++ rest
  pub spelled : SpellsDigits digits n
  pub ended : BeginsWithout (λ byte. is_digit byte 10) rest

-- such digits, and one that makes their number greater
pub record BeginsTooWide (bytes : List ℕ) (cause : FormatCause) (rest : List ℕ) : Type 0 where
  pub digits : List ℕ
  pub n : ℕ
  pub byte : ℕ
  pub behind : List ℕ
  pub joined : bytes ≡ digits ++ rest
  pub spelled : SpellsDigits digits n
  pub rest_is : rest ≡ byte ∷ behind
  pub digit : is_digit byte 10 ≡ true
  pub above : MAX_SIZE < digits_value 10 (digits ++ byte ∷ [])
  pub cause_is : cause ≡ TooWide

abbrev pub width_goes_on : List ℕ → ℕ → Bool
width_goes_on width byte = (byte == 42 && is_empty width) || (is_digit byte 10 && not (has_star width))

pub record BeginsWithWidth (bytes : List ℕ) (size : Size) (rest : List ℕ) : Type 0 where
  pub width : List ℕ
  pub joined : bytes ≡ width ++ rest
  pub spelled : SpellsWidth width size
  pub ended : BeginsWithout (width_goes_on width) rest

abbrev pub precision_goes_on : List ℕ → ℕ → Bool
precision_goes_on precision byte =
    (byte == 46 && is_empty precision) || (byte == 42 && is_only 46 precision)
    || (is_digit byte 10 && not (is_empty precision) && not (has_star precision))

pub record BeginsWithPrecision (bytes : List ℕ) (size : Size) (rest : List ℕ) : Type 0 where
  pub precision : List ℕ
  pub joined : bytes ≡ precision ++ rest
  pub spelled : SpellsPrecision precision size
  pub ended : BeginsWithout (precision_goes_on precision) rest

-- the spelling of a length, or `L`
abbrev pub modifier_bytes : Modifier → List ℕ
modifier_bytes (Known length) = length_bytes length
modifier_bytes LongDouble = codes "L"

abbrev pub modifier_goes_on : List ℕ → ℕ → Bool
modifier_goes_on modifier byte =
    (stands byte (codes "hljztL") && is_empty modifier) || (byte == 104 && is_only 104 modifier)
    || (byte == 108 && is_only 108 modifier)

pub record BeginsWithModifier (bytes : List ℕ) (modifier : Modifier) (rest : List ℕ) : Type 0 where
  pub joined : bytes ≡ modifier_bytes modifier ++ rest
  pub ended : BeginsWithout (modifier_goes_on (modifier_bytes modifier)) rest

-- the byte is this conversion, which takes this length and one more argument
pub record Converts (taken : ℕ) (modifier : Modifier) (byte : ℕ) (length : Length) (conversion : Conversion) : Type 0 where
  pub byte_is : byte ≡ conversion_byte conversion
  pub modifier_is : modifier ≡ Known length
  pub takes : TakesLength conversion length
  pub few : taken < MAX_ARGUMENTS

-- ---- a break in a field

abbrev pub after_flags : List ℕ → Head
after_flags flags = record { flags = flags; width = []; precision = []; modifier = [] }

abbrev pub after_width : List ℕ → List ℕ → Head
after_width flags width = record { flags = flags; width = width; precision = []; modifier = [] }

-- the byte goes on with a part of the head, or is the second of `%%`
abbrev pub grows : Head → ℕ → Bool
grows head byte =
    takes_flag head byte || takes_width_star head byte || takes_width_digit head byte || takes_period head byte
    || takes_precision_star head byte || takes_precision_digit head byte || takes_modifier head byte
    || (byte == 37 && is_empty_head head)

-- behind the start the bytes go on with a head up to the rest, which breaks there; no `*` stands between, and `taken`
-- arguments were taken before
pub record Stops (start : Head) (taken : ℕ) (bytes : List ℕ) (cause : FormatCause) (rest : List ℕ) : Type 0 where
  pub head : Head
  pub joined : head_bytes start ++ bytes ≡ head_bytes head ++ rest
  pub right : IsHead head
  pub stars : unfinished_stars (Some head) ≡ unfinished_stars (Some start)
  pub stops : cause_at (Some head) taken (slice_get rest 0) ≡ Some cause

-- ---- pieces

-- a field, where `taken` arguments were taken before it
pub record BeginsWithField (taken : ℕ) (bytes : List ℕ) (spec : Spec) (rest : List ℕ) : Type 0 where
  pub front : List ℕ
  pub joined : bytes ≡ front ++ rest
  pub spelled : SpellsField front spec
  pub few : taken + length (field_types spec) ≤ MAX_ARGUMENTS

-- neither `%` nor NUL
abbrev pub is_plain_byte : ℕ → Bool
is_plain_byte byte = not (byte == 37) && not (byte == 0)

abbrev pub IsEnded : Piece → List ℕ → Type 0
IsEnded (Literal start end) rest = BeginsWithout is_plain_byte rest
IsEnded _ rest = ⊤

-- a piece at this place of the format
pub record BeginsWithPiece (at taken : ℕ) (bytes : List ℕ) (piece : Piece) (rest : List ℕ) : Type 0 where
  pub front : List ℕ
  pub joined : bytes ≡ front ++ rest
  pub spelled : SpellsPiece at front piece
  pub few : taken + length (piece_types piece) ≤ MAX_ARGUMENTS
  pub ended : IsEnded piece rest

-- an unfinished field or nothing, and the rest, which breaks there
pub record BeginsBroken (taken : ℕ) (bytes : List ℕ) (cause : FormatCause) (rest : List ℕ) : Type 0 where
  pub head : Option Head
  pub joined : bytes ≡ unfinished_bytes head ++ rest
  pub right : IfSome head IsHead
  pub few : taken + unfinished_stars head ≤ MAX_ARGUMENTS
  pub stops : cause_at head (taken + unfinished_stars head) (slice_get rest 0) ≡ Some cause
