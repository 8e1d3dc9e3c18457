-- Lists that are gone through item by item.
use Rattle.std.proofs.Common.{◌≡◌, ℕ, zero, suc, Some, List, [], ◌∷◌, ◌++◌, length, map, refl, sym, ap, subst, ◌∙◌, append_assoc, arith}
use Rattle.std.specs.Prelude.{All, slice_get, slice_set}
use Rattle.std.specs.List.{AllZip}
use Rattle.std.proofs.lemmas.List.{append-nil, map-append}
use Rattle.std.proofs.lemmas.List.Elements.{All-nil, All-cons, All-head, All-tail, All-get_or}
use Rattle.std.proofs.lemmas.Option.{slice_get_within, get_or_from_slice_get}

-- the next one is moved behind those that were made of the ones before it
pub moved_next : {A B : Type 0} (f : B → A) (made : List B) (rest more all : List A) (y : B) → map f made ++ rest ≡ all → rest ≡ f y ∷ more → map f (made ++ y ∷ []) ++ more ≡ all
moved_next {A} f made rest more all y joined is =
    ap (λ (front : List A). front ++ more) (map-append f made (y ∷ [])) ∙ append_assoc (map f made) (f y ∷ []) more
    ∙ sym (ap (λ (back : List A). map f made ++ back) is) ∙ joined

pub moved_all : {A B : Type 0} (f : B → A) (made : List B) (rest all : List A) → map f made ++ rest ≡ all → length rest ≡ 0 → map f made ≡ all
moved_all f made [] all joined none = sym (append-nil (map f made)) ∙ joined
moved_all f made (x ∷ rest) all joined none = absurd (omega arith)

-- ---- places

pub get_set : {A : Type 0} (xs : List A) (i : ℕ) (x y : A) → slice_get xs i ≡ Some x → slice_get (slice_set xs i y) i ≡ Some y
get_set [] i x y there = absurd cc
get_set (z ∷ xs) zero x y there = refl
get_set (z ∷ xs) (suc i) x y there = get_set xs i x y there

-- what holds at each place holds of all, where the lists are of one length
pub by_place : {A : Type 0} (R : A → A → Type 0) (xs ys : List A) → length xs ≡ length ys → ((i : ℕ) (x y : A) → slice_get xs i ≡ Some x → slice_get ys i ≡ Some y → R x y) → AllZip R xs ys
by_place R [] [] same each = tt
by_place R [] (y ∷ ys) same each = absurd (omega (arith, same))
by_place R (x ∷ xs) [] same each = absurd (omega (arith, same))
by_place R (x ∷ xs) (y ∷ ys) same each = (each zero x y refl refl, by_place R xs ys (omega (arith, same)) (λ i a b here there. each (suc i) a b here there))

-- what holds of the images
pub zip_images : {A B C : Type 0} (f : C → A) (R : A → B → Type 0) (xs : List C) (ys : List B) → AllZip R (map f xs) ys → AllZip (λ (x : C) (y : B). R (f x) y) xs ys
zip_images f R [] [] all = tt
zip_images f R [] (y ∷ ys) all = absurd all
zip_images f R (x ∷ xs) [] all = absurd all
zip_images f R (x ∷ xs) (y ∷ ys) all = (all.0, zip_images f R xs ys all.1)

-- what holds of all holds at each place
pub of_place : {A : Type 0} (P : A → Type 0) (xs : List A) (i : ℕ) (x : A) → All P xs → slice_get xs i ≡ Some x → P x
of_place P xs i x all there = subst P (get_or_from_slice_get xs i x x there) (All-get_or P xs i x (slice_get_within xs i x there) all)

pub zip_images_of_second : {A B C : Type 0} (f : C → B) (R : A → B → Type 0) (xs : List A) (ys : List C) → AllZip R xs (map f ys) → AllZip (λ (x : A) (y : C). R x (f y)) xs ys
zip_images_of_second f R [] [] all = tt
zip_images_of_second f R [] (y ∷ ys) all = absurd all
zip_images_of_second f R (x ∷ xs) [] all = absurd all
zip_images_of_second f R (x ∷ xs) (y ∷ ys) all = (all.0, zip_images_of_second f R xs ys all.1)

-- what holds of each of the second list holds beside each of the first
pub zip_and_all : {A B : Type 0} (R Q : A → B → Type 0) (P : B → Type 0) → ((x : A) (y : B) → R x y → P y → Q x y) → (xs : List A) (ys : List B) → AllZip R xs ys → All P ys → AllZip Q xs ys
zip_and_all R Q P then [] [] all each = tt
zip_and_all R Q P then [] (y ∷ ys) all each = absurd all
zip_and_all R Q P then (x ∷ xs) [] all each = absurd all
zip_and_all R Q P then (x ∷ xs) (y ∷ ys) all each = (then x y all.0 (All-head P y ys each), zip_and_all R Q P then xs ys all.1 (All-tail P y ys each))

pub all_images : {A B : Type 0} (f : A → B) (P : B → Type 0) (Q : A → Type 0) → ((x : A) → P (f x) → Q x) → (xs : List A) → All P (map f xs) → All Q xs
all_images f P Q then [] all = All-nil Q
all_images f P Q then (x ∷ xs) all = All-cons Q x xs (then x (All-head P (f x) (map f xs) all)) (all_images f P Q then xs (All-tail P (f x) (map f xs) all))
