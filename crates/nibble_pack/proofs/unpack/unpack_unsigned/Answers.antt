use Rattle.std.proofs.Common.{◌≡◌, ℕ, zero, suc, ◌^◌, ◌<◌, ◌≤◌, take, get_or, refl, subst, arith}
use Rattle.std.proofs.lemmas.List.Elements.{All-from_get_or}
use Rattle.std.specs.Prelude.{ℤ, pos}
use Rattle.nibble_pack.specs.Packing.{unsigned, IsLeastCount, Packed}
use Rattle.nibble_pack.proofs.lemmas.PackingLaws.{Packed-code, IsLeastCount-zero, IsLeastCount-suc}
use Rattle.nibble_pack.specs.declared.unpack.TheConstants.{LEAST_NUMBERS}
use Rattle.nibble_pack.proofs.lemmas.Fronts.{read_spells, reads_unsigned, reads_no_unsigned, Packed-stands, Packed-at_front, only_value}
use Rattle.nibble_pack.proofs.unpack.unpack_unsigned.Goals as goal

pub returns-then-code-gt8-clause-only : goal.returns-then-code-gt8-clause-only
returns-then-code-gt8-clause-only c = λ v front rest packed is.
    let code = Packed-code unsigned (pos v) c.args.code front packed in absurd (omega arith)

pub returns-then-bytes-count-clause-only : goal.returns-then-bytes-count-clause-only
returns-then-bytes-count-clause-only c = λ v front rest packed is.
    let stand = Packed-stands unsigned (pos v) c.args.code c.args.bytes.now front rest packed is in absurd (omega arith)

-- the least numbers of so many bytes
power : (k : ℕ) → k ≤ 7 → get_or LEAST_NUMBERS (suc k) 0 ≡ 256 ^ k
power zero h = refl
power (suc zero) h = refl
power (suc (suc zero)) h = refl
power (suc (suc (suc zero))) h = refl
power (suc (suc (suc (suc zero)))) h = refl
power (suc (suc (suc (suc (suc zero))))) h = refl
power (suc (suc (suc (suc (suc (suc zero)))))) h = refl
power (suc (suc (suc (suc (suc (suc (suc zero))))))) h = refl
power (suc (suc (suc (suc (suc (suc (suc (suc more)))))))) h = absurd (omega arith)

least : (count n : ℕ) → count ≤ 8 → n < 256 ^ count → get_or LEAST_NUMBERS count 0 ≤ n → IsLeastCount count n
least zero n most below enough = let none : 0 ≡ n = omega arith in subst (IsLeastCount 0) none IsLeastCount-zero
least (suc k) n most below enough = IsLeastCount-suc k n (subst (λ (m : ℕ). m ≤ n) (power k (omega arith)) enough) below

not_least : (count n : ℕ) → count ≤ 8 → n < get_or LEAST_NUMBERS count 0 → ¬ IsLeastCount count n
not_least zero n most below is = absurd (omega arith)
not_least (suc k) n most below is = let fewer = is.least k (subst (λ (m : ℕ). n < m) (power k (omega arith)) below) in absurd (omega arith)

-- what was read is spelled by the bytes
spelled : (c : goal.Else-v-count) → Packed unsigned (pos c.front_number-v.result) c.args.code (take c.args.code c.args.bytes.now)
spelled c =
    let are = All-from_get_or (λ (b : ℕ). b < 256) c.args.bytes.now 0 (λ i _. (c.type_inv.bytes i).fits) in
    let below = (read_spells c.args.bytes.now c.args.code c.front_number-v.result are (omega arith) (omega arith) c.front_number-v.ensures).0 in
    reads_unsigned c.args.bytes.now c.args.code c.front_number-v.result are (omega arith) (omega arith) c.front_number-v.type_inv c.front_number-v.ensures
    (least c.args.code c.front_number-v.result (omega arith) below c.if-v-count.false)

-- no value is
none : (c : goal.Then-v-count) (z : ℤ) → ¬ Packed unsigned z c.args.code (take c.args.code c.args.bytes.now)
none c =
    reads_no_unsigned c.args.bytes.now c.args.code c.front_number-v.result (All-from_get_or (λ (b : ℕ). b < 256) c.args.bytes.now 0 (λ i _. (c.type_inv.bytes i).fits))
    (omega arith) (omega arith) c.front_number-v.ensures (not_least c.args.code c.front_number-v.result (omega arith) c.if-v-count.true)

pub returns-clause-ok : goal.returns-clause-ok
returns-clause-ok c = spelled c

pub returns-clause-only : goal.returns-clause-only
returns-clause-only c = λ v front rest packed is.
    let same = only_value unsigned (pos v) (pos c.front_number-v.result) c.args.code c.args.bytes.now front rest packed is (spelled c) in cc

pub returns-clause-not_shortest :
    goal.returns-clause-not_shortest
returns-clause-not_shortest c = (λ is. absurd cc, λ no. absurd (no.2 (pos c.front_number-v.result) (spelled c)))

pub returns-then-v-count-clause-only : goal.returns-then-v-count-clause-only
returns-then-v-count-clause-only c = λ v front rest packed is.
    absurd (none c (pos v) (Packed-at_front unsigned (pos v) c.args.code c.args.bytes.now front rest packed is))

pub returns-then-v-count-clause-not_shortest :
    goal.returns-then-v-count-clause-not_shortest
returns-then-v-count-clause-not_shortest c = (λ _. (omega arith, omega arith, none c), λ _. refl)
