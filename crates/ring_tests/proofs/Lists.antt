-- Two lists of which the first has one item.
use Rattle.std.proofs.Common.{◌≡◌, List, [], ◌∷◌, ◌++◌, length, refl, sym, ap, subst, ◌∙◌, arith}
use Rattle.std.specs.List.{AllZip}
use Rattle.std.proofs.lemmas.List.{length-append}

one_pair : {A B : Type 0} (R : A → B → Type 0) (front : List A) (x : A) (ys : List B) → length (front ++ x ∷ []) ≡ 1 → AllZip R (front ++ x ∷ []) ys → (y : B) × (ys ≡ y ∷ []) × R x y
one_pair R [] x [] one all = absurd all
one_pair R [] x (b ∷ []) one all = (b, refl, all.0)
one_pair R [] x (b ∷ c ∷ ys) one all = absurd all.1
one_pair R (a ∷ front) x ys one all = absurd (omega (arith, length-append front (x ∷ []), one))

-- the last item of the first list stands beside the one item of the second
pub one_left : {A B : Type 0} (R : A → B → Type 0) (xs front : List A) (x : A) (ys : List B) → xs ≡ front ++ x ∷ [] → length xs ≡ 1 → AllZip R xs ys → (y : B) × (ys ≡ y ∷ []) × R x y
one_left {A} R xs front x ys is one all = one_pair R front x ys (ap length (sym is) ∙ one) (subst (λ (list : List A). AllZip R list ys) is all)
