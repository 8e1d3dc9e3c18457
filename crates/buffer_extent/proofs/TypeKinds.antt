-- Which kind of number a type asks for.
use Rattle.std.proofs.Common.{◌≡◌, refl, ap, inl, inr}
use Rattle.std.specs.Prelude.{◌⊎◌}
use Rattle.printf_grammar.specs.declared.arg_type.ArgType.{ArgType}
use Rattle.printf_grammar.specs.declared.arg_type.ArgType.TheVariants as argument_types
use Rattle.nibble_pack.specs.Packing.{unsigned, signed}
use Rattle.buffer_extent.specs.Records.{kind_of}

-- the types whose numbers are unsigned
pub kind_unsigned : (type : ArgType) → (type ≡ argument_types.UInt) ⊎ ((type ≡ argument_types.ULong) ⊎ (type ≡ argument_types.Text)) → kind_of type ≡ unsigned
kind_unsigned type (inl is) = ap kind_of is
kind_unsigned type (inr (inl is)) = ap kind_of is
kind_unsigned type (inr (inr is)) = ap kind_of is

pub kind_signed : (type : ArgType) → (type ≡ argument_types.UInt → ⊥) → (type ≡ argument_types.ULong → ⊥) → (type ≡ argument_types.Text → ⊥) → kind_of type ≡ signed
kind_signed argument_types.Int not_uint not_ulong not_text = refl
kind_signed argument_types.Long not_uint not_ulong not_text = refl
kind_signed argument_types.Width not_uint not_ulong not_text = refl
kind_signed argument_types.Precision not_uint not_ulong not_text = refl
kind_signed argument_types.UInt not_uint not_ulong not_text = absurd (not_uint refl)
kind_signed argument_types.ULong not_uint not_ulong not_text = absurd (not_ulong refl)
kind_signed argument_types.Text not_uint not_ulong not_text = absurd (not_text refl)
