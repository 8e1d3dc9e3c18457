-- The nanoseconds that ticks take.
use Rattle.std.proofs.Common.{◌≡◌, ℕ, ◌+◌, ◌*◌, ◌/◌, ◌%◌, ◌≤◌, sym, ap, ◌∙◌, arith}
use Rattle.std.proofs.Math.Nat.{mul-add-div_right}
use Rattle.std.proofs.lemmas.Nat.{div-add-mod'}

-- whole seconds and the part of one
pub Time-by_parts : (ticks rate : ℕ) → 1 ≤ rate → ticks / rate * 1000000000 + ticks % rate * 1000000000 / rate ≡ ticks * 1000000000 / rate
Time-by_parts ticks rate some =
    let whole : ticks / rate * 1000000000 * rate + ticks % rate * 1000000000 ≡ ticks * 1000000000 = omega (arith, div-add-mod' ticks rate) in
    sym (mul-add-div_right {m = rate} (omega arith) (ticks / rate * 1000000000) (ticks % rate * 1000000000)) ∙ ap (λ n. n / rate) whole
