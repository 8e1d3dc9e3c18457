-- Worked examples.
use Rattle.std.proofs.Common.{ℕ, ◌<◌, ◌≤◌, [], ◌∷◌, refl, arith}
use Rattle.std.specs.Prelude.{pos, negsuc}
use Rattle.printf_grammar.specs.declared.arg_type.ArgType.TheVariants as argument_types
use Rattle.printf_grammar.specs.declared.argument.Value.TheVariants as values
use Rattle.nibble_pack.specs.Packing.{unsigned, Packed, IsLeastCount, small, negative}
use Rattle.nibble_pack.proofs.lemmas.PackingLaws.{IsLeastCount-zero, IsLeastCount-suc}
use Rattle.buffer_extent.specs.Records.{RecordBytes}

one_byte : (n : ℕ) → 1 ≤ n → n < 256 → IsLeastCount 1 n
one_byte n low high = IsLeastCount-suc 0 n low high

nothing_packed : Packed unsigned (pos 0) 0 []
nothing_packed = (0, refl, record { fits = omega arith; count = IsLeastCount-zero; spelled = refl })

pub number_record : RecordBytes (argument_types.Int ∷ []) 0 1003 1000 (values.Signed (pos 7) ∷ []) (16 ∷ 3 ∷ 1 ∷ 7 ∷ [])
number_record = record {
  id_number = record { code = 0; bytes = [] };
  step_number = record { code = 1; bytes = 3 ∷ [] };
  numbers = record { code = 1; bytes = 7 ∷ [] } ∷ [];
  id_packed = nothing_packed;
  not_before = omega arith;
  stamp_fits = omega arith;
  step_packed = (3, refl, record { fits = omega arith; count = one_byte 3 (omega arith) (omega arith); spelled = refl });
  packed = (small 7 refl (omega arith) (one_byte 7 (omega arith) (omega arith)) refl, tt);
  joined = refl;
}

pub text_record : RecordBytes (argument_types.Int ∷ argument_types.Text ∷ []) 1 9 5 (values.Signed (negsuc 0) ∷ values.Text (97 ∷ 98 ∷ []) ∷ []) (17 ∷ 1 ∷ 4 ∷ 25 ∷ 2 ∷ 97 ∷ 98 ∷ [])
text_record = record {
  id_number = record { code = 1; bytes = 1 ∷ [] };
  step_number = record { code = 1; bytes = 4 ∷ [] };
  numbers = record { code = 9; bytes = [] } ∷ record { code = 1; bytes = 2 ∷ [] } ∷ [];
  id_packed = (1, refl, record { fits = omega arith; count = one_byte 1 (omega arith) (omega arith); spelled = refl });
  not_before = omega arith;
  stamp_fits = omega arith;
  step_packed = (4, refl, record { fits = omega arith; count = one_byte 4 (omega arith) (omega arith); spelled = refl });
  packed = (negative 0 0 refl (omega arith) IsLeastCount-zero refl refl, ((2, refl, record { fits = omega arith; count = one_byte 2 (omega arith) (omega arith); spelled = refl }), tt));
  joined = refl;
}
