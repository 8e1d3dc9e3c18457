-- What a frame leaves to the types of its arguments: their kinds.
use Rattle.std.specs.Prelude.{◌<◌, ◌^◌, ⊤, FitsSigned}
use Rattle.std.specs.Int.{w64}
use Rattle.nibble_pack.specs.Bytes.{AreBytes}
use Rattle.printf_grammar.specs.declared.arg_type.ArgType.{ArgType}
use Rattle.printf_grammar.specs.declared.arg_type.ArgType.TheVariants as types
use Rattle.printf_grammar.specs.declared.argument.Value.{Value}
use Rattle.printf_grammar.specs.declared.argument.Value.TheVariants as values

pub data ArgKind : Type 0 where
  signed : ArgKind
  unsigned : ArgKind
  text : ArgKind

abbrev pub arg_kind : Value → ArgKind
arg_kind (values.Signed z) = signed
arg_kind (values.Unsigned n) = unsigned
arg_kind (values.Text bytes) = text

abbrev pub type_kind : ArgType → ArgKind
type_kind types.Int = signed
type_kind types.UInt = unsigned
type_kind types.Long = signed
type_kind types.ULong = unsigned
type_kind types.Width = signed
type_kind types.Precision = signed
type_kind types.Text = text

-- an integer has 64 bits, and a text is bytes
abbrev pub IsArgument : Value → Type 0
IsArgument (values.Signed z) = FitsSigned w64 z
IsArgument (values.Unsigned n) = n < 2 ^ 64
IsArgument (values.Text bytes) = AreBytes bytes

-- a text is bytes
abbrev pub HoldsBytes : Value → Type 0
HoldsBytes (values.Text bytes) = AreBytes bytes
HoldsBytes _ = ⊤
