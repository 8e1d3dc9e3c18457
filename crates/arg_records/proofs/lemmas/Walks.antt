-- Lists that are walked through.
use Rattle.std.proofs.Common.{◌≡◌, ℕ, ◌+◌, List, [], ◌∷◌, ◌++◌, length, append_assoc, sym, ap, ◌∙◌, arith, subst}
use Rattle.std.proofs.lemmas.List.{append-nil}
use Rattle.std.specs.Prelude.{All}
use Rattle.std.specs.List.{AllZip}
use Rattle.std.proofs.lemmas.List.Elements.{All-nil, All-cons, All-head, All-tail}

-- the item that is taken stands behind those before
pub walked : {A : Type 0} (seen rest more all : List A) (x : A) → seen ++ rest ≡ all → rest ≡ x ∷ more → (seen ++ x ∷ []) ++ more ≡ all
walked {A} seen rest more all x joined is = append_assoc seen (x ∷ []) more ∙ sym (ap (λ (r : List A). seen ++ r) is) ∙ joined

pub walked_all : {A : Type 0} (seen rest all : List A) → seen ++ rest ≡ all → length rest ≡ 0 → seen ≡ all
walked_all {A} seen [] all joined none = sym (append-nil seen) ∙ joined
walked_all {A} seen (x ∷ rest) all joined none = absurd (omega arith)

pub one_less : {A : Type 0} (rest more : List A) (x : A) (len less : ℕ) → length rest ≡ len → rest ≡ x ∷ more → less + 1 ≡ len → length more ≡ less
one_less rest more x len less long is next = let e = ap length is in omega (arith, e, long, next)

-- what holds of all that are left holds of the next one, and of those behind it
pub all_next : {A : Type 0} (P : A → Type 0) (rest more : List A) (x : A) → rest ≡ x ∷ more → All P rest → P x × All P more
all_next {A} P rest more x is all =
    let here : All P (x ∷ more) = subst (λ (items : List A). All P items) is all in
    (All-head P x more here, All-tail P x more here)

-- what follows for each of the first list
pub zip_first : {A B : Type 0} (R : A → B → Type 0) (P : A → Type 0) → ((x : A) (y : B) → R x y → P x) → (xs : List A) (ys : List B) → AllZip R xs ys → All P xs
zip_first R P then [] [] all = All-nil P
zip_first R P then [] (y ∷ ys) all = absurd all
zip_first R P then (x ∷ xs) [] all = absurd all
zip_first R P then (x ∷ xs) (y ∷ ys) all = All-cons P x xs (then x y all.0) (zip_first R P then xs ys all.1)
