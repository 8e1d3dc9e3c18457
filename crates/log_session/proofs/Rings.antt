-- Lists of the ends of rings.
use Rattle.std.proofs.Common.{◌≡◌, ℕ, ◌+◌, List, [], ◌∷◌, ◌++◌, ◌<◌, ◌≤◌, length, refl, sym, ap, subst, ◌∙◌, arith}
use Rattle.std.specs.Prelude.{sum_by}
use Rattle.std.specs.List.{AllZip}
use Rattle.std.proofs.lemmas.List.{length-append}
use Rattle.std.proofs.lemmas.List.Sums.{sum_by_push, sum_by-cons}
use Rattle.std.proofs.lemmas.Slice.Zip.{all_zipped_more}
use Rattle.log_session.specs.Starts.{AllZipMore}
use Rattle.log_session.specs.Settling.{AllZip3}

-- with one pair more it holds of all, and there is one more
pub zip_more : {A B : Type 0} (R : A → B → Type 0) (xs : List A) (ys : List B) (more_xs : List A) (more_ys : List B) → AllZip R xs ys → AllZipMore R xs ys more_xs more_ys → AllZip R more_xs more_ys
zip_more {A} {B} R xs ys more_xs more_ys all more =
    subst (λ (lists : List A × List B). AllZip R lists.0 lists.1) (λ i. (sym more.ours_are i, sym more.theirs_are i)) (all_zipped_more R xs ys more.one more.other all more.holds)

pub one_longer : {A B : Type 0} (R : A → B → Type 0) (xs : List A) (ys : List B) (more_xs : List A) (more_ys : List B) (n : ℕ) → length xs ≡ n → AllZipMore R xs ys more_xs more_ys → length more_xs ≡ n + 1
one_longer R xs ys more_xs more_ys n count more = ap length more.ours_are ∙ omega (arith, length-append xs (more.one ∷ []), count)

-- ---- three lists

pub AllZip3-snoc : {A B C : Type 0} (R : A → B → C → Type 0) (xs : List A) (ys : List B) (zs : List C) (x : A) (y : B) (z : C) → AllZip3 R xs ys zs → R x y z → AllZip3 R (xs ++ x ∷ []) (ys ++ y ∷ []) (zs ++ z ∷ [])
AllZip3-snoc R [] [] [] x y z all is = (is, tt)
AllZip3-snoc R [] [] (c ∷ zs) x y z all is = absurd all
AllZip3-snoc R [] (b ∷ ys) [] x y z all is = absurd all
AllZip3-snoc R [] (b ∷ ys) (c ∷ zs) x y z all is = absurd all
AllZip3-snoc R (a ∷ xs) [] [] x y z all is = absurd all
AllZip3-snoc R (a ∷ xs) [] (c ∷ zs) x y z all is = absurd all
AllZip3-snoc R (a ∷ xs) (b ∷ ys) [] x y z all is = absurd all
AllZip3-snoc R (a ∷ xs) (b ∷ ys) (c ∷ zs) x y z all is = (all.0, AllZip3-snoc R xs ys zs x y z all.1 is)

-- where both lists are walked through side by side, the next items are a pair
pub zip_head : {A B : Type 0} (R : A → B → Type 0) (xs more_xs : List A) (ys more_ys : List B) (x : A) (y : B) → xs ≡ x ∷ more_xs → ys ≡ y ∷ more_ys → AllZip R xs ys → R x y × AllZip R more_xs more_ys
zip_head {A} {B} R xs more_xs ys more_ys x y is other all = subst (λ (lists : List A × List B). AllZip R lists.0 lists.1) (λ i. (is i, other i)) all

pub zip_ends : {A B : Type 0} (R : A → B → Type 0) (xs : List A) (ys : List B) → length xs ≡ 0 → AllZip R xs ys → ys ≡ []
zip_ends R [] [] none all = refl
zip_ends R [] (b ∷ ys) none all = absurd all
zip_ends R (a ∷ xs) ys none all = absurd (omega arith)

pub zip_goes_on : {A B : Type 0} (R : A → B → Type 0) (xs more_xs : List A) (x : A) → xs ≡ x ∷ more_xs → AllZip R xs [] → ⊥
zip_goes_on {A} {B} R xs more_xs x is all = subst (λ (list : List A). AllZip R list []) is all

-- ---- sums

pub sum_more : {A : Type 0} (f : A → ℕ) (xs : List A) (x : A) (n m : ℕ) → n ≡ sum_by f xs → m ≡ f x → n + m ≡ sum_by f (xs ++ x ∷ [])
sum_more f xs x n m sum here = omega (arith, sum_by_push f xs x, sum, here)

pub sum_less : {A : Type 0} (f : A → ℕ) (rest more : List A) (x : A) (n m most : ℕ) → rest ≡ x ∷ more → m ≤ f x → n + sum_by f rest < most → n + m + sum_by f more < most
sum_less f rest more x n m most is few bound = let e = ap (sum_by f) is ∙ sum_by-cons f x more in omega (arith, e, few, bound)
