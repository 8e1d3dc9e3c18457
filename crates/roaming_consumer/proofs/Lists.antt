-- Lists that are changed at one place.
use Rattle.std.proofs.Common.{◌≡◌, ◌≢◌, ℕ, zero, suc, ◌+◌, ◌<◌, Bool, cond, eqb, List, [], ◌∷◌, ◌++◌, map, get_or, refl, sym, ap, ◌∙◌, inl, inr, arith}
use Rattle.std.specs.Prelude.{slice_set, replicate}
use Rattle.std.specs.List.{range_with_len}
use Rattle.std.proofs.lemmas.Bool.{eq-eqb}
use Rattle.std.proofs.lemmas.Bool.Decides.{eqb_tells}
use Rattle.std.proofs.lemmas.List.{append-nil}

-- what is put behind the list of one number alone
abbrev pub at_one : {A : Type 0} → ℕ → List A → ℕ → List A
at_one one items n = cond (eqb one n) items []

at_same : {A : Type 0} (one n : ℕ) (items : List A) → one ≡ n → at_one one items n ≡ items
at_same one n items same = ap (λ (b : Bool). cond b items []) (eq-eqb one n same)

at_other : {A : Type 0} (one n : ℕ) (items : List A) → one ≢ n → at_one one items n ≡ []
at_other one n items other =
    elim (eqb_tells one n) [
      | inl same ↦ absurd (other same.1)
      | inr differs ↦ ap (λ (b : Bool). cond b items []) differs.0
    ]

no_other : {A : Type 0} (f : ℕ → List A) (one : ℕ) (items : List A) (from n : ℕ) → one < from → map f (range_with_len from n) ≡ map (λ k. f k ++ at_one one items k) (range_with_len from n)
no_other f one items from zero below = refl
no_other f one items from (suc n) below =
    let here : f from ≡ f from ++ at_one one items from = sym (ap (λ (l : _). f from ++ l) (at_other one from items (omega (arith, below))) ∙ append-nil (f from)) in
    let others = no_other f one items (from + 1) n (omega (arith, below)) in
    λ i. here i ∷ others i

-- more behind one of the lists
pub more_at_one : {A : Type 0} (f : ℕ → List A) (one : ℕ) (items : List A) (from n place : ℕ) → place < n → one ≡ from + place → slice_set (map f (range_with_len from n)) place (get_or (map f (range_with_len from n)) place [] ++ items) ≡ map (λ k. f k ++ at_one one items k) (range_with_len from n)
more_at_one f one items from zero place within is = absurd (omega (arith, within))
more_at_one f one items from (suc n) zero within is =
    let here : f from ++ items ≡ f from ++ at_one one items from = ap (λ (l : _). f from ++ l) (sym (at_same one from items (omega (arith, is)))) in
    let others = no_other f one items (from + 1) n (omega (arith, is)) in
    λ i. here i ∷ others i
more_at_one f one items from (suc n) (suc place) within is =
    let here : f from ≡ f from ++ at_one one items from = sym (ap (λ (l : _). f from ++ l) (at_other one from items (λ same. omega (arith, is, same))) ∙ append-nil (f from)) in
    let others = more_at_one f one items (from + 1) n place (omega (arith, within)) (omega (arith, is)) in
    λ i. here i ∷ others i

-- nothing for each number
pub none_each : {A : Type 0} (f : ℕ → List A) (n from : ℕ) → ((k : ℕ) → f k ≡ []) → map f (range_with_len from n) ≡ replicate n []
none_each f zero from none = refl
none_each f (suc n) from none = let others = none_each f n (from + 1) none in let here = none from in λ i. here i ∷ others i
