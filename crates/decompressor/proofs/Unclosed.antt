-- The writers that no block closes, one after the other.
use Rattle.std.proofs.Common.{◌≡◌, ℕ, zero, suc, ◌+◌, Bool, true, false, cond, List, [], ◌∷◌, ◌++◌, ap, sym, ◌∙◌, arith}
use Rattle.std.specs.Prelude.{filter}
use Rattle.std.specs.List.{range_with_len}
use Rattle.std.proofs.lemmas.List.{append-nil}
use Rattle.std.proofs.lemmas.List.Elements.{filter-append}

range_push : (from n : ℕ) → range_with_len from (suc n) ≡ range_with_len from n ++ (from + n) ∷ []
range_push from zero = let same : from ≡ from + 0 = omega arith in ap (λ (k : ℕ). k ∷ []) same
range_push from (suc n) =
    let same : from + 1 + n ≡ from + suc n = omega arith in
    ap (λ (ks : List ℕ). from ∷ ks) (range_push (from + 1) n) ∙ ap (λ (k : ℕ). from ∷ range_with_len (from + 1) n ++ k ∷ []) same

module _ (test : ℕ → Bool) (n : ℕ) where
  one_more : (passes : Bool) → test n ≡ passes → filter test (range_with_len 0 (n + 1)) ≡ filter test (range_with_len 0 n) ++ cond passes (n ∷ []) []
  one_more passes is =
      let next : n + 1 ≡ suc n = omega arith in
      let here : 0 + n ≡ n = omega arith in
      ap (λ (k : ℕ). filter test (range_with_len 0 k)) next
      ∙ ap (filter test) (range_push 0 n ∙ ap (λ (k : ℕ). range_with_len 0 n ++ k ∷ []) here)
      ∙ filter-append test (range_with_len 0 n) (n ∷ [])
      ∙ ap (λ (b : Bool). filter test (range_with_len 0 n) ++ cond b (n ∷ []) []) is

  pub one_passes : (so_far after : List ℕ) → so_far ≡ filter test (range_with_len 0 n) → test n ≡ true → after ≡ so_far ++ n ∷ [] → after ≡ filter test (range_with_len 0 (n + 1))
  one_passes so_far after are passes added = added ∙ ap (λ (ks : List ℕ). ks ++ n ∷ []) are ∙ sym (one_more true passes)

  pub one_fails : (so_far after : List ℕ) → so_far ≡ filter test (range_with_len 0 n) → test n ≡ false → after ≡ so_far → after ≡ filter test (range_with_len 0 (n + 1))
  one_fails so_far after are fails same = same ∙ are ∙ sym (append-nil (filter test (range_with_len 0 n))) ∙ sym (one_more false fails)
