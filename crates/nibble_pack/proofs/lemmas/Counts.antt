-- The least count of bytes, from the count of binary digits.
use Rattle.std.proofs.Common.{◌≡◌, inl, inr, ℕ, zero, suc, ◌+◌, ◌-◌, ◌*◌, ◌/◌, ◌^◌, ◌<◌, ◌≤◌, refl, arith}
use Rattle.std.proofs.lemmas.Nat.{pow-add, leading_length}
use Rattle.std.proofs.lemmas.Bool.{cases_lt}
use Rattle.std.proofs.Math.Nat.{pow-le-pow_right, pow-suc}
use Rattle.std.specs.Int.{w64, leading_zeros}
use Rattle.nibble_pack.specs.Packing.{IsLeastCount}

-- two ways to write the size of some bytes
pub pow256 : (k : ℕ) → 256 ^ k ≡ 2 ^ (8 * k)
pow256 zero = refl
pow256 (suc k) =
    let e : 8 * suc k ≡ 8 * k + 8 = omega arith in
    rw (pow-suc 256 k, pow256 k, e, pow-add 2 (8 * k) 8) refl

pub pow-mono : (i j : ℕ) → i ≤ j → 2 ^ i ≤ 2 ^ j
pow-mono i j h = pow-le-pow_right {n = 2} (omega arith) {i = i} {j = j} h

-- m binary digits take (m + 7) / 8 bytes
count_of_digits : (n m : ℕ) → n < 2 ^ m → 2 ^ m ≤ 2 * n + 1 → IsLeastCount ((m + 7) / 8) n
count_of_digits n m below above = record {
  holds =
      let power = pow256 ((m + 7) / 8) in
      let more = pow-mono m (8 * ((m + 7) / 8)) (omega arith) in
      omega arith;
  least = λ fewer h. elim (cases_lt fewer ((m + 7) / 8)) [
    | inl short ↦
        let power = pow256 fewer in
        let more = pow-mono (8 * fewer + 1) m (omega arith) in
        let twice = pow-add 2 (8 * fewer) 1 in
        absurd (omega arith)
    | inr enough ↦ enough
  ];
}

pub least_count_is : (n : ℕ) → n < 2 ^ 64 → IsLeastCount ((71 - leading_zeros w64 n) / 8) n
least_count_is n h =
    let digits = leading_length 64 n h in
    let same : 71 - leading_zeros w64 n ≡ digits.0 + 7 = omega (arith, digits.1) in
    rw same (count_of_digits n digits.0 digits.2 digits.3)
