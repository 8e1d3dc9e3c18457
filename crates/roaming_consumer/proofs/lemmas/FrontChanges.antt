-- A list that is changed item by item, from the front.
use Rattle.std.proofs.Common.{◌≡◌, ℕ, zero, suc, ◌+◌, ◌≤◌, List, [], ◌∷◌, length, Some, sym, ap, subst, ◌∙◌, arith}
use Rattle.std.specs.Prelude.{slice_get, slice_set}
use Rattle.std.specs.List.{AllZip}
use Rattle.std.proofs.lemmas.Option.{same_Some}

-- so many items were changed, and the others are as they were
abbrev pub ChangesFront : {A : Type 0} → (A → A → Type 0) → ℕ → List A → List A → Type 0
ChangesFront R zero xs ys = ys ≡ xs
ChangesFront R (suc count) (x ∷ xs) (y ∷ ys) = R x y × ChangesFront R count xs ys
ChangesFront R (suc count) _ _ = ⊥

changes_next : {A : Type 0} (R : A → A → Type 0) (count : ℕ) (xs ys : List A) (before after : A) → ChangesFront R count xs ys → slice_get ys count ≡ Some before → R before after → ChangesFront R (suc count) xs (slice_set ys count after)
changes_next R zero [] [] before after walked there step = absurd cc
changes_next R zero [] (y ∷ ys) before after walked there step = absurd cc
changes_next R zero (x ∷ xs) [] before after walked there step = absurd cc
changes_next R zero (x ∷ xs) (y ∷ ys) before after walked there step =
    let first : y ≡ x = cc in
    let rest : ys ≡ xs = cc in
    (subst (λ (item : _). R item after) (sym (same_Some y before there) ∙ first) step, rest)
changes_next R (suc count) [] ys before after walked there step = absurd walked
changes_next R (suc count) (x ∷ xs) [] before after walked there step = absurd walked
changes_next R (suc count) (x ∷ xs) (y ∷ ys) before after walked there step = (walked.0, changes_next R count xs ys before after walked.1 there step)

pub changes_more : {A : Type 0} (R : A → A → Type 0) (count : ℕ) (xs ys : List A) (before after : A) → ChangesFront R count xs ys → slice_get ys count ≡ Some before → R before after → ChangesFront R (count + 1) xs (slice_set ys count after)
changes_more R count xs ys before after walked there step =
    let one : suc count ≡ count + 1 = omega arith in
    subst (λ (n : ℕ). ChangesFront R n xs (slice_set ys count after)) one (changes_next R count xs ys before after walked there step)

pub changes_long : {A : Type 0} (R : A → A → Type 0) (count : ℕ) (xs ys : List A) → ChangesFront R count xs ys → length ys ≡ length xs
changes_long R zero xs ys walked = ap length walked
changes_long R (suc count) [] ys walked = absurd walked
changes_long R (suc count) (x ∷ xs) [] walked = absurd walked
changes_long R (suc count) (x ∷ xs) (y ∷ ys) walked = ap suc (changes_long R count xs ys walked.1)

-- all were changed
pub changes_all : {A : Type 0} (R : A → A → Type 0) (count : ℕ) (xs ys : List A) → length xs ≤ count → ChangesFront R count xs ys → AllZip R xs ys
changes_all R zero [] [] all walked = tt
changes_all R zero [] (y ∷ ys) all walked = absurd cc
changes_all R zero (x ∷ xs) ys all walked = absurd (omega (arith, all))
changes_all R (suc count) [] ys all walked = absurd walked
changes_all R (suc count) (x ∷ xs) [] all walked = absurd walked
changes_all R (suc count) (x ∷ xs) (y ∷ ys) all walked = (walked.0, changes_all R count xs ys (omega (arith, all)) walked.1)
