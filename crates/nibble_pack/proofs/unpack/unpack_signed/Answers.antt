use Rattle.std.proofs.Common.{◌≡◌, ◌↔◌, ℕ, ◌-◌, ◌^◌, ◌<◌, take, Err, sym, subst, arith}
use Rattle.std.proofs.lemmas.Int.{ints}
use Rattle.std.proofs.lemmas.Result.{err_from_is_err_and}
use Rattle.std.specs.Prelude.{ℤ, pos, negsuc, ◌-ℤ◌}
use Rattle.std.specs.Int.{w64, cast_signed, cast_unsigned}
use Rattle.nibble_pack.specs.declared.unpack.UnpackFault.TheVariants.{NotShortest}
use Rattle.nibble_pack.specs.Packing.{signed, byte_count, Packed, IsNotShortest}
use Rattle.nibble_pack.proofs.lemmas.PackingLaws.{Packed-code, signed_count-low, signed_count-high}
use Rattle.nibble_pack.proofs.lemmas.Fronts.{only_value}
use Rattle.nibble_pack.proofs.lemmas.SignedForms.{signed_from_unsigned, unsigned_from_signed, signed_from_count, count_from_signed, no_spelling_low, no_spelling_high}
use Rattle.nibble_pack.proofs.unpack.unpack_signed.Goals as goal

-- ---- codes up to 7

-- the unsigned number's form, as a signed one
low_form : (c : goal.In_ok-unpack_unsigned-in-0-to-7) → (c.in_ok-unpack_unsigned-in-0-to-7.field-0 < 2 ^ 56) × Packed signed (pos c.in_ok-unpack_unsigned-in-0-to-7.field-0) c.args.code (take c.args.code c.args.bytes.now)
low_form c = signed_from_unsigned c.in_ok-unpack_unsigned-in-0-to-7.field-0 c.args.code (take c.args.code c.args.bytes.now) (omega arith) c.in_ok-unpack_unsigned-in-0-to-7.ensures.ok

low_ok : (c : goal.In_ok-unpack_unsigned-in-0-to-7) → Packed signed (cast_signed w64 c.in_ok-unpack_unsigned-in-0-to-7.field-0) c.args.code (take (byte_count signed c.args.code) c.args.bytes.now)
low_ok c =
    let form = low_form c in
    let below = form.0 in
    let count : byte_count signed c.args.code ≡ c.args.code = signed_count-low c.args.code (omega arith) in
    let value : cast_signed w64 c.in_ok-unpack_unsigned-in-0-to-7.field-0 ≡ pos c.in_ok-unpack_unsigned-in-0-to-7.field-0 = omega (arith, ints) in
    subst (λ (z : ℤ). Packed signed z c.args.code (take (byte_count signed c.args.code) c.args.bytes.now)) (sym value)
    (subst (λ (k : ℕ). Packed signed (pos c.in_ok-unpack_unsigned-in-0-to-7.field-0) c.args.code (take k c.args.bytes.now)) (sym count) form.1)

pub overflow_cast-result : goal.overflow_cast-result
overflow_cast-result c = let below = (low_form c).0 in record { sfits = omega arith }

pub returns-in_err-unpack_unsigned-in-0-to-7-clause-only :
    goal.returns-in_err-unpack_unsigned-in-0-to-7-clause-only
returns-in_err-unpack_unsigned-in-0-to-7-clause-only c = λ v front rest packed is.
    let back = unsigned_from_signed v c.args.code front (omega arith) packed in
    let ok = c.unpack_unsigned.ensures.only back.0 front rest back.2 is in
    let was = c.in_err-unpack_unsigned-in-0-to-7.was in absurd cc

pub returns-in_err-unpack_unsigned-in-0-to-7-clause-not_shortest :
    goal.returns-in_err-unpack_unsigned-in-0-to-7-clause-not_shortest
returns-in_err-unpack_unsigned-in-0-to-7-clause-not_shortest c =
    let fault = err_from_is_err_and c.from_residual.result c.from_residual.ensures.1 in
    let was = c.in_err-unpack_unsigned-in-0-to-7.was in
    let none = no_spelling_low c.args.code c.args.bytes.now (omega arith) in (
      (λ is. none.0 (c.unpack_unsigned.ensures.not_shortest.0 (cc))),
      (λ no. let is = c.unpack_unsigned.ensures.not_shortest.1 (none.1 no) in cc),
    )

pub returns-in_ok-unpack_unsigned-in-0-to-7-clause-ok :
    goal.returns-in_ok-unpack_unsigned-in-0-to-7-clause-ok
returns-in_ok-unpack_unsigned-in-0-to-7-clause-ok c = low_ok c

pub returns-in_ok-unpack_unsigned-in-0-to-7-clause-only :
    goal.returns-in_ok-unpack_unsigned-in-0-to-7-clause-only
returns-in_ok-unpack_unsigned-in-0-to-7-clause-only c = λ v front rest packed is.
    let same = only_value signed v (cast_signed w64 c.in_ok-unpack_unsigned-in-0-to-7.field-0) c.args.code c.args.bytes.now front rest packed is (low_ok c) in cc

pub returns-in_ok-unpack_unsigned-in-0-to-7-clause-not_shortest :
    goal.returns-in_ok-unpack_unsigned-in-0-to-7-clause-not_shortest
returns-in_ok-unpack_unsigned-in-0-to-7-clause-not_shortest c =
    (λ is. absurd cc, λ no. absurd (no.2 (cast_signed w64 c.in_ok-unpack_unsigned-in-0-to-7.field-0) (low_ok c)))

-- ---- code 8

pub returns-in-8-clause-only : goal.returns-in-8-clause-only
returns-in-8-clause-only c = λ v front rest packed is.
    c.unpack_wide.ensures.only v front rest (subst (λ (k : ℕ). Packed signed v k front) c.in-8.is packed) is

pub returns-in-8-clause-not_shortest : goal.returns-in-8-clause-not_shortest
returns-in-8-clause-not_shortest c =
    subst (λ (k : ℕ). (c.unpack_wide.result ≡ Err NotShortest) ↔ IsNotShortest signed k c.args.bytes.now) (sym c.in-8.is) c.unpack_wide.ensures.not_shortest

-- ---- codes from 9 on

-- the number that is read from the unsigned one
below_zero : ℕ → ℤ
below_zero n = cast_signed w64 (cast_unsigned w64 (negsuc 0 -ℤ cast_signed w64 n))

high_form : (c : goal.In_ok-unpack_unsigned-in-9-to-15) → (c.in_ok-unpack_unsigned-in-9-to-15.field-0 < 2 ^ 48) × Packed signed (negsuc c.in_ok-unpack_unsigned-in-9-to-15.field-0) c.args.code (take (c.args.code - 9) c.args.bytes.now)
high_form c =
    signed_from_count c.in_ok-unpack_unsigned-in-9-to-15.field-0 c.args.code (c.args.code - 9) (take (c.args.code - 9) c.args.bytes.now) (omega arith) (omega arith)
    c.in_ok-unpack_unsigned-in-9-to-15.ensures.ok

high_ok : (c : goal.In_ok-unpack_unsigned-in-9-to-15) → Packed signed (below_zero c.in_ok-unpack_unsigned-in-9-to-15.field-0) c.args.code (take (byte_count signed c.args.code) c.args.bytes.now)
unfolding below_zero
high_ok c =
    let form = high_form c in
    let below = form.0 in
    let count : byte_count signed c.args.code ≡ c.args.code - 9 = signed_count-high c.args.code (c.args.code - 9) (omega arith) in
    let value : below_zero c.in_ok-unpack_unsigned-in-9-to-15.field-0 ≡ negsuc c.in_ok-unpack_unsigned-in-9-to-15.field-0 = omega (arith, ints) in
    subst (λ (z : ℤ). Packed signed z c.args.code (take (byte_count signed c.args.code) c.args.bytes.now)) (sym value)
    (subst (λ (k : ℕ). Packed signed (negsuc c.in_ok-unpack_unsigned-in-9-to-15.field-0) c.args.code (take k c.args.bytes.now)) (sym count) form.1)

pub overflow_cast-result-in-9-to-15 : goal.overflow_cast-result-in-9-to-15
overflow_cast-result-in-9-to-15 c = let below = (high_form c).0 in record { sfits = omega arith }

pub returns-in_err-unpack_unsigned-in-9-to-15-clause-only :
    goal.returns-in_err-unpack_unsigned-in-9-to-15-clause-only
returns-in_err-unpack_unsigned-in-9-to-15-clause-only c = λ v front rest packed is.
    let back = count_from_signed v c.args.code (c.args.code - 9) front (omega arith) packed in
    let ok = c.unpack_unsigned-in-9-to-15.ensures.only back.0 front rest back.2 is in
    let was = c.in_err-unpack_unsigned-in-9-to-15.was in absurd cc

pub returns-in_err-unpack_unsigned-in-9-to-15-clause-not_shortest :
    goal.returns-in_err-unpack_unsigned-in-9-to-15-clause-not_shortest
returns-in_err-unpack_unsigned-in-9-to-15-clause-not_shortest c =
    let fault = err_from_is_err_and c.from_residual-in_err-unpack_unsigned-in-9-to-15.result c.from_residual-in_err-unpack_unsigned-in-9-to-15.ensures.1 in
    let was = c.in_err-unpack_unsigned-in-9-to-15.was in
    let none = no_spelling_high c.args.code (c.args.code - 9) c.args.bytes.now (omega arith) (omega arith) in (
      (λ is. none.0 (c.unpack_unsigned-in-9-to-15.ensures.not_shortest.0 (cc))),
      (λ no. let is = c.unpack_unsigned-in-9-to-15.ensures.not_shortest.1 (none.1 no) in cc),
    )

pub returns-in_ok-unpack_unsigned-in-9-to-15-clause-ok :
    goal.returns-in_ok-unpack_unsigned-in-9-to-15-clause-ok
unfolding below_zero
returns-in_ok-unpack_unsigned-in-9-to-15-clause-ok c = high_ok c

pub returns-in_ok-unpack_unsigned-in-9-to-15-clause-only :
    goal.returns-in_ok-unpack_unsigned-in-9-to-15-clause-only
unfolding below_zero
returns-in_ok-unpack_unsigned-in-9-to-15-clause-only c = λ v front rest packed is.
    let same = only_value signed v (below_zero c.in_ok-unpack_unsigned-in-9-to-15.field-0) c.args.code c.args.bytes.now front rest packed is (high_ok c) in cc

pub returns-in_ok-unpack_unsigned-in-9-to-15-clause-not_shortest :
    goal.returns-in_ok-unpack_unsigned-in-9-to-15-clause-not_shortest
returns-in_ok-unpack_unsigned-in-9-to-15-clause-not_shortest c =
    (λ is. absurd cc, λ no. absurd (no.2 (below_zero c.in_ok-unpack_unsigned-in-9-to-15.field-0) (high_ok c)))

-- ---- the other codes

pub returns-in_default-clause-only : goal.returns-in_default-clause-only
returns-in_default-clause-only c = λ v front rest packed is.
    let code = Packed-code signed v c.args.code front packed in absurd (omega arith)
