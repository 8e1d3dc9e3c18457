-- Strings in chunks of which none is empty.
use Rattle.std.proofs.Common.{◌≡◌, ◌≢◌, ℕ, zero, suc, ◌+◌, ◌<◌, Bool, true, false, eqb, List, [], ◌∷◌, ◌++◌, length, get_or, Some, refl, ap, sym, ◌∙◌, append_assoc, inl, inr, arith}
use Rattle.std.proofs.Math.ListN.{set}
use Rattle.std.specs.Prelude.{slice_get}
use Rattle.std.specs.List.{flat_map, AllByRecursion}
use Rattle.std.proofs.lemmas.Bool.Decides.{eqb_tells}
use Rattle.std.proofs.lemmas.List.{append-nil}

module _ {A : Type 0} where
  -- the last chunk gets one more
  pub last_more : (chunks : List (List A)) (place : ℕ) (last : List A) (x : A) → place + 1 ≡ length chunks → last ≡ get_or chunks place last → flat_map (λ (chunk : List A). chunk) (set chunks place (last ++ x ∷ [])) ≡ flat_map (λ (chunk : List A). chunk) chunks ++ x ∷ []
  last_more [] place last x end is = absurd (omega (arith, end))
  last_more (chunk ∷ []) zero last x end is =
      append-nil (last ++ x ∷ []) ∙ ap (λ (l : List A). l ++ x ∷ []) (is ∙ sym (append-nil chunk))
  last_more (chunk ∷ []) (suc place) last x end is = absurd (omega (arith, end))
  last_more (chunk ∷ next ∷ others) zero last x end is = absurd (omega (arith, end))
  last_more (chunk ∷ next ∷ others) (suc place) last x end is =
      ap (λ (l : List A). chunk ++ l) (last_more (next ∷ others) place last x (omega (arith, end)) is)
      ∙ sym (append_assoc chunk (flat_map (λ (c : List A). c) (next ∷ others)) (x ∷ []))

  some_left : (first back : List A) → first ≢ [] → first ++ back ≢ []
  some_left [] back some none = absurd (some refl)
  some_left (x ∷ first) back some none = cc

  pub first_is : (first back : List A) (x : A) → slice_get first 0 ≡ Some x → slice_get (first ++ back) 0 ≡ Some x
  first_is [] back x is = absurd cc
  first_is (y ∷ first) back x is = is

  -- the first chunk begins with what waits first, and it isn't empty
  pub front_parts : (chunks : List (List A)) (first all : List A) → 0 < length chunks → first ≡ get_or chunks 0 first → AllByRecursion (λ (chunk : List A). chunk ≢ []) chunks → flat_map (λ (chunk : List A). chunk) chunks ≡ all → (back : List A) × (all ≡ first ++ back) × (first ≢ []) × (all ≢ [])
  front_parts [] first all some is filled joined = absurd (omega (arith, some))
  front_parts (chunk ∷ chunks) first all some is filled joined =
      let back = flat_map (λ (c : List A). c) chunks in
      (back, sym joined ∙ ap (λ (l : List A). l ++ back) (sym is), (λ none. filled.0 (sym is ∙ none)), (λ none. some_left chunk back filled.0 (joined ∙ none)))

  pub none_in : (chunks : List (List A)) → AllByRecursion (λ (chunk : List A). chunk ≢ []) chunks → flat_map (λ (chunk : List A). chunk) chunks ≡ [] → length chunks ≡ 0
  none_in [] filled none = omega arith
  none_in (chunk ∷ chunks) filled none = absurd (some_left chunk (flat_map (λ (c : List A). c) chunks) filled.0 none)

  pub in_none : (chunks : List (List A)) → length chunks ≡ 0 → flat_map (λ (chunk : List A). chunk) chunks ≡ []
  in_none [] none = refl
  in_none (chunk ∷ chunks) none = absurd (omega (arith, none))

-- a test for equal numbers is one for what holds just then
pub equal_tells : (test : Bool) (m n : ℕ) (P : Type 0) → test ≡ eqb m n → (m ≡ n → P) → (P → m ≡ n) → (test ≡ true → P) × (P → test ≡ true)
equal_tells test m n P is there back = elim (eqb_tells m n) [
  | inl same ↦ (λ so. there same.1, λ p. is ∙ same.0)
  | inr apart ↦ (λ so. let wrong : true ≡ false = sym so ∙ is ∙ apart.0 in absurd cc, λ p. absurd (apart.1 (back p)))
]
