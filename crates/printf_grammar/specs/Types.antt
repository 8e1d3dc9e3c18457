-- The arguments that a format takes, and which values fit them (C11 7.21.6.1, paragraphs 5, 7 and 8).
use Rattle.std.specs.Prelude.{◌≢◌, ℕ, pos, neg_ℤ, ◌≤ℤ◌, ◌<◌, ◌≤◌, ◌^◌, List, [], ◌∷◌, ◌++◌, length, map, ⊤, FitsSigned}
use Rattle.std.specs.Int.{w32, w64}
use Rattle.std.specs.List.{AllByRecursion}
use Rattle.printf_grammar.specs.declared.limits.TheConstants.{MAX_SIZE, MAX_TEXT}
use Rattle.printf_grammar.specs.declared.piece.Piece.{Piece}
use Rattle.printf_grammar.specs.declared.piece.Piece.TheVariants.{Literal, Percent, Field}
use Rattle.printf_grammar.specs.declared.piece.Spec.{Spec}
use Rattle.printf_grammar.specs.declared.piece.Size.{Size}
use Rattle.printf_grammar.specs.declared.piece.Size.TheVariants.{Star}
use Rattle.printf_grammar.specs.declared.piece.Length.{Length}
use Rattle.printf_grammar.specs.declared.piece.Length.TheVariants as lengths
use Rattle.printf_grammar.specs.declared.piece.Conversion.{Conversion}
use Rattle.printf_grammar.specs.declared.piece.Conversion.TheVariants as conversions
use Rattle.printf_grammar.specs.declared.arg_type.ArgType.{ArgType}
use Rattle.printf_grammar.specs.declared.arg_type.ArgType.TheVariants as types
use Rattle.printf_grammar.specs.declared.argument.Arg.{Arg}
use Rattle.printf_grammar.specs.declared.argument.Arg.TheVariants as args
use Rattle.printf_grammar.specs.declared.argument.Value.{Value}
use Rattle.printf_grammar.specs.declared.argument.Value.TheVariants as values

-- what an argument is, without where its text lies
abbrev pub argument_value : Arg → Value
argument_value (args.Signed z) = values.Signed z
argument_value (args.Unsigned n) = values.Unsigned n
argument_value (args.Text text) = values.Text text.now

abbrev pub values_of : List Arg → List Value
values_of list = map argument_value list

-- the bytes of a text; a number has none
abbrev pub text_of : Value → List ℕ
text_of (values.Signed z) = []
text_of (values.Unsigned n) = []
text_of (values.Text bytes) = bytes

-- ---- what a format takes

-- a `*` takes an argument of this type
abbrev pub size_types : ArgType → Size → List ArgType
size_types type Star = type ∷ []
size_types type _ = []

-- d and i: an int without a length or with hh or h, else 64 bits
abbrev pub signed_type : Length → ArgType
signed_type lengths.Plain = types.Int
signed_type lengths.HH = types.Int
signed_type lengths.H = types.Int
signed_type _ = types.Long

-- o, u, x and X: an unsigned int without a length or with hh or h, else 64 bits
abbrev pub unsigned_type : Length → ArgType
unsigned_type lengths.Plain = types.UInt
unsigned_type lengths.HH = types.UInt
unsigned_type lengths.H = types.UInt
unsigned_type _ = types.ULong

-- the type of the value that is converted
abbrev pub conversion_type : Conversion → Length → ArgType
conversion_type conversions.D length = signed_type length
conversion_type conversions.I length = signed_type length
conversion_type conversions.O length = unsigned_type length
conversion_type conversions.U length = unsigned_type length
conversion_type conversions.X length = unsigned_type length
conversion_type conversions.UpperX length = unsigned_type length
conversion_type conversions.C length = types.Int
conversion_type conversions.S length = types.Text
conversion_type conversions.P length = types.ULong

-- the width, the precision and the value, in this order (paragraph 5)
abbrev pub field_types : Spec → List ArgType
field_types spec =
    size_types types.Width spec.width ++ size_types types.Precision spec.precision
    ++ conversion_type spec.conversion spec.length ∷ []

-- what one piece takes
abbrev pub piece_types : Piece → List ArgType
piece_types (Literal start end) = []
piece_types Percent = []
piece_types (Field spec) = field_types spec

-- what the pieces take, in order
abbrev pub Types : List Piece → List ArgType
Types [] = []
Types (piece ∷ pieces) = piece_types piece ++ Types pieces

-- ---- what fits

-- a text has at most this many bytes, none of them NUL
pub record IsText (bytes : List ℕ) : Type 0 where
  pub short : length bytes ≤ MAX_TEXT
  pub no_nul : AllByRecursion (λ byte. byte ≢ 0) bytes

-- the value is of the type's kind and in its range
abbrev pub FitsType : Value → ArgType → Type 0
FitsType (values.Signed z) types.Int = FitsSigned w32 z
FitsType (values.Signed z) types.Long = FitsSigned w64 z
FitsType (values.Signed z) types.Width = (neg_ℤ (pos MAX_SIZE) ≤ℤ z) × (z ≤ℤ pos MAX_SIZE)
FitsType (values.Signed z) types.Precision = FitsSigned w32 z × (z ≤ℤ pos MAX_SIZE)
FitsType (values.Unsigned n) types.UInt = n < 2 ^ 32
FitsType (values.Unsigned n) types.ULong = n < 2 ^ 64
FitsType (values.Text bytes) types.Text = IsText bytes
FitsType _ _ = ⊥

-- as many values as types, each fitting its own
abbrev pub Fits : List Value → List ArgType → Type 0
Fits [] [] = ⊤
Fits (value ∷ values) (type ∷ types) = FitsType value type × Fits values types
Fits _ _ = ⊥
