use Rattle.std.proofs.Common.{◌≡◌, ℕ, ◌<◌, take, refl, sym, subst, ◌∙◌, arith}
use Rattle.std.proofs.lemmas.List.Elements.{All-from_get_or}
use Rattle.std.proofs.lemmas.Int.{to_z-of_z}
use Rattle.std.specs.Prelude.{ℤ}
use Rattle.std.specs.Int.{w64, cast_signed, cast_unsigned}
use Rattle.nibble_pack.specs.Packing.{signed, IsWide, Packed}
use Rattle.nibble_pack.proofs.lemmas.Fronts.{Packed-at_front}
use Rattle.nibble_pack.proofs.lemmas.SignedForms.{reads_wide, reads_no_wide}
use Rattle.nibble_pack.proofs.unpack.unpack_wide.Goals as goal

-- what was read is spelled by the bytes
spelled : (c : goal.Else-not-is_wide) → Packed signed (cast_signed w64 (cast_unsigned w64 c.cast_signed-v.result)) 8 (take 8 c.args.bytes.now)
spelled c =
    let back : cast_signed w64 (cast_unsigned w64 c.cast_signed-v.result) ≡ cast_signed w64 c.front_number.result =
    to_z-of_z w64 c.cast_signed-v.result (record { sfits = c.cast_signed-v.type_inv }) ∙ c.cast_signed-v.ensures in
    subst (λ (z : ℤ). Packed signed z 8 (take 8 c.args.bytes.now)) (sym back)
    (reads_wide c.args.bytes.now c.front_number.result (All-from_get_or (λ (b : ℕ). b < 256) c.args.bytes.now 0 (λ i _. (c.type_inv.bytes i).fits))
    (omega arith) c.front_number.ensures (subst IsWide back (c.if-not-is_wide.ensures.0 refl)))

-- no value is
none : (c : goal.Then-not-is_wide) (z : ℤ) → ¬ Packed signed z 8 (take 8 c.args.bytes.now)
none c =
    reads_no_wide c.args.bytes.now c.front_number.result (All-from_get_or (λ (b : ℕ). b < 256) c.args.bytes.now 0 (λ i _. (c.type_inv.bytes i).fits))
    (omega arith) c.front_number.ensures (λ w. let wide = c.if-not-is_wide.ensures.1 (subst IsWide (sym (to_z-of_z w64 c.cast_signed-v.result (record { sfits = c.cast_signed-v.type_inv }) ∙ c.cast_signed-v.ensures)) w) in cc)

pub returns-then-not-is_wide-clause-only : goal.returns-then-not-is_wide-clause-only
returns-then-not-is_wide-clause-only c = λ v front rest packed is.
    absurd (none c v (Packed-at_front signed v 8 c.args.bytes.now front rest packed is))

pub returns-then-not-is_wide-clause-not_shortest : goal.returns-then-not-is_wide-clause-not_shortest
returns-then-not-is_wide-clause-not_shortest c = (λ _. (omega arith, omega arith, none c), λ _. refl)

pub returns-clause-ok : goal.returns-clause-ok
returns-clause-ok c = spelled c

pub returns-clause-not_shortest : goal.returns-clause-not_shortest
returns-clause-not_shortest c = (λ is. absurd cc, λ no. absurd (no.2 (cast_signed w64 (cast_unsigned w64 c.cast_signed-v.result)) (spelled c)))
