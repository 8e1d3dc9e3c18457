use Rattle.std.proofs.Common.{◌≡◌, ℕ, ◌+◌, ◌^◌, ◌<◌, ◌≤◌, take, sym, subst, arith}
use Rattle.std.proofs.lemmas.Int.{ints, to_z-of_z}
use Rattle.std.specs.Prelude.{pos, negsuc, ◌-ℤ◌}
use Rattle.std.specs.Int.{w64, cast_signed, cast_unsigned}
use Rattle.std.specs.Int.RustNames.{unsigned_abs}
use Rattle.nibble_pack.specs.Packing.{signed, Packed, IsWide}
use Rattle.nibble_pack.proofs.lemmas.SignedForms.{packs_negative, packs_small}
use Rattle.nibble_pack.proofs.pack.pack_signed.Goals as goal

-- the unsigned form of -v - 1
form : (c : goal.After-result-1) → (c.pack_unsigned-packed.result.code ≤ 6) × Packed signed c.args.v (9 + c.pack_unsigned-packed.result.code) (take c.pack_unsigned-packed.result.len c.pack_unsigned-packed.result.bytes)
form c =
    let n : ℕ = unsigned_abs (cast_signed w64 (cast_unsigned w64 (negsuc 0 -ℤ cast_signed w64 (cast_unsigned w64 c.args.v)))) in
    let is : c.args.v ≡ negsuc n = omega (arith, ints) in
    let fits : n < 2 ^ 63 = omega (arith, ints) in
    packs_negative c.args.v n c.pack_unsigned-packed.result.code _ is
    (λ w. let wide = c.if-is_wide.ensures.1 (subst IsWide (sym (to_z-of_z w64 c.args.v c.ranges.v)) w) in cc) fits c.pack_unsigned-packed.ensures.packed

pub returns-then-v-lt0-clause-packed : goal.returns-then-v-lt0-clause-packed
returns-then-v-lt0-clause-packed c = (form c).1

pub returns-then-v-lt0-clause-code : goal.returns-then-v-lt0-clause-code
returns-then-v-lt0-clause-code c = let low = (form c).0 in omega arith

pub returns-else-v-lt0-clause-packed : goal.returns-else-v-lt0-clause-packed
returns-else-v-lt0-clause-packed c =
    let n : ℕ = unsigned_abs (cast_signed w64 (cast_unsigned w64 c.args.v)) in
    let is : c.args.v ≡ pos n = omega (arith, ints) in
    let fits : n < 2 ^ 63 = omega (arith, ints) in
    packs_small c.args.v n c.pack_unsigned.result.code _ is
    (λ w. let wide = c.if-is_wide.ensures.1 (subst IsWide (sym (to_z-of_z w64 c.args.v c.ranges.v)) w) in cc) fits c.pack_unsigned.ensures.packed
