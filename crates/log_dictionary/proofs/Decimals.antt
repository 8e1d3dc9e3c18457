-- Fields of numbers that are too large.
use Rattle.std.proofs.Common.{◌≡◌, ℕ, ◌<◌, ◌≤◌, ◌^◌, List, sym, ◌∙◌, arith}
use Rattle.std.specs.Fmt.{decimal}
use Rattle.std.proofs.lemmas.Fmt.{decimal_injective}

-- a number from 2^32 on isn't spelled as one below
pub not_below : (field : List ℕ) (m n : ℕ) → m < 2 ^ 64 → 2 ^ 32 ≤ m → n < 2 ^ 32 → field ≡ decimal m → field ≡ decimal n → ⊥
not_below field m n fits large small is_m is_n = let same = decimal_injective m n fits (omega arith) (sym is_m ∙ is_n) in omega arith
