-- Places of positions.
use Rattle.std.proofs.Common.{◌≡◌, ◌≢◌, ℕ, ◌+◌, ◌%◌, ◌/◌, ◌<◌, ◌≤◌, List, [], ◌∷◌, ◌++◌, length, ap, append-nil, length-append, sym, ◌∙◌, ⊎_elim, inl, inr, arith}
use Rattle.std.specs.Prelude.{◌⊎◌}
use Rattle.std.proofs.lemmas.Bool.{cases_lt}
use Rattle.std.proofs.Math.Nat.{div-add-mod, mul-le-mul_left}
use Rattle.ring_machine.proofs.lemmas.Walks.{two_fronts}

-- two positions less than the ring's size apart have different places
pub places_apart : (p q size : ℕ) → p < q → q < p + size → p % size ≢ q % size
places_apart p q size before near same =
    let a = div-add-mod p size in
    let b = div-add-mod q size in
    ⊎_elim
    (λ (less : p / size < q / size).
    let step : p / size + 1 ≤ q / size = omega (arith, less) in
    omega (arith, a, b, near, same, mul-le-mul_left {m = p / size + 1} {n = q / size} size step))
    (λ (more : q / size ≤ p / size). omega (arith, a, b, before, same, mul-le-mul_left {m = q / size} {n = p / size} size more))
    (cases_lt (p / size) (q / size))

-- a word among words and one more is the last, or one of these
pub among_more : (words : List ℕ) (last : ℕ) (front back : List ℕ) (word : ℕ) → words ++ last ∷ [] ≡ front ++ word ∷ back
    → ((words ≡ front) × (last ≡ word)) ⊎ ((rest : List ℕ) × (words ≡ front ++ word ∷ rest))
among_more words last front back word e =
    ⊎_elim
    (λ (h : (mid : List ℕ) × (front ≡ words ++ mid) × (last ∷ [] ≡ mid ++ word ∷ back)). inl (behind h.0 h.1 h.2))
    (λ (h : (mid : List ℕ) × (words ≡ front ++ mid) × (word ∷ back ≡ mid ++ last ∷ [])). before h.0 h.1 h.2)
    (two_fronts words (last ∷ []) front (word ∷ back) e)
  where
    behind : (mid : List ℕ) → front ≡ words ++ mid → last ∷ [] ≡ mid ++ word ∷ back → (words ≡ front) × (last ≡ word)
    behind [] is rest = (sym (is ∙ append-nil words), cc rest)
    behind (x ∷ mid) is rest = absurd omega (arith, length-append mid (word ∷ back), ap (λ (xs : List ℕ). length xs) rest)

    before : (mid : List ℕ) → words ≡ front ++ mid → word ∷ back ≡ mid ++ last ∷ [] → ((words ≡ front) × (last ≡ word)) ⊎ ((rest : List ℕ) × (words ≡ front ++ word ∷ rest))
    before [] is rest = inl (is ∙ append-nil front, sym (cc rest))
    before (x ∷ mid) is rest =
        let same : x ≡ word = sym (cc rest) in
        inr (mid, is ∙ ap (λ (n : ℕ). front ++ n ∷ mid) same)
