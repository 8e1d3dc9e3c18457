-- The packed record of a call.
use Rattle.std.specs.Prelude.{◌≡◌, ℕ, ℤ, pos, ◌+◌, ◌-◌, ◌*◌, ◌<◌, ◌≤◌, ◌^◌, List, [], ◌∷◌, ◌++◌, length, map, ⊤}
use Rattle.std.specs.List.{flat_map}
use Rattle.printf_grammar.specs.declared.arg_type.ArgType.{ArgType}
use Rattle.printf_grammar.specs.declared.argument.Value.{Value}
use Rattle.printf_grammar.specs.declared.argument.Value.TheVariants as values
use Rattle.printf_grammar.specs.Types.{text_of}
use Rattle.arg_records.specs.Kinds.{ArgKind, type_kind, signed as signed_kind, unsigned as unsigned_kind, text as text_kind}
use Rattle.nibble_pack.specs.Packing.{Kind, unsigned, signed, Packed}

-- a packed number: its code of four bits, and its bytes
pub record PackedNumber : Type 0 where
  pub code : ℕ
  pub bytes : List ℕ

-- of which kind the number is that stands for an argument of this kind: a text's length is unsigned
abbrev pub number_kind : ArgKind → Kind
number_kind signed_kind = signed
number_kind unsigned_kind = unsigned
number_kind text_kind = unsigned

-- of which kind the number is that stands for an argument of the type
abbrev pub kind_of : ArgType → Kind
kind_of type = number_kind (type_kind type)

-- the number that stands for an argument: an integer for itself, a length for a text
abbrev pub packed_value : Value → ℤ
packed_value (values.Signed z) = z
packed_value (values.Unsigned n) = pos n
packed_value (values.Text bytes) = pos (length bytes)

-- the numbers stand for the arguments, in order, each packed as its type's kind
abbrev pub PacksArguments : List ArgType → List Value → List PackedNumber → Type 0
PacksArguments [] [] [] = ⊤
PacksArguments (type ∷ types) (value ∷ values) (number ∷ numbers) =
    Packed (kind_of type) (packed_value value) number.code number.bytes × PacksArguments types values numbers
PacksArguments _ _ _ = ⊥

abbrev pub codes_of : List PackedNumber → List ℕ
codes_of numbers = map (λ number. number.code) numbers

abbrev pub packed_bytes : List PackedNumber → List ℕ
packed_bytes numbers = flat_map (λ number. number.bytes) numbers

-- codes in bytes, two to a byte, the first one in the low four bits; where one is left over, the high four bits are 0
abbrev pub code_bytes : List ℕ → List ℕ
code_bytes [] = []
code_bytes (low ∷ []) = low ∷ []
code_bytes (low ∷ high ∷ codes) = (low + 16 * high) ∷ code_bytes codes

-- A record's bytes: the codes of the id and of the step in one byte, the id, the step, the codes of the arguments,
-- their numbers, and the texts. The step is the stamp less the stamp before.
pub record RecordBytes (types : List ArgType) (id stamp before : ℕ) (args : List Value) (bytes : List ℕ) : Type 0 where
  pub id_number : PackedNumber
  pub step_number : PackedNumber
  pub numbers : List PackedNumber
  pub id_packed : Packed unsigned (pos id) id_number.code id_number.bytes
  pub not_before : before ≤ stamp
  pub stamp_fits : stamp < 2 ^ 64
  pub step_packed : Packed unsigned (pos (stamp - before)) step_number.code step_number.bytes
  pub packed : PacksArguments types args numbers
  pub joined : bytes ≡ (id_number.code + 16 * step_number.code) ∷ id_number.bytes
      ++ step_number.bytes
      ++ code_bytes (codes_of numbers)
      ++ packed_bytes numbers
      ++ flat_map text_of args
