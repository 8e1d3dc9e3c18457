-- A list of which one item is set.
use Rattle.std.proofs.Common.{◌≡◌, ◌≢◌, ℕ, zero, suc, List, [], ◌∷◌, get_or, refl, ap, subst}
use Rattle.std.specs.Prelude.{All, Some, slice_get, slice_set}
use Rattle.std.specs.List.{AllZip}
use Rattle.std.proofs.lemmas.List.Elements.{All-nil, All-cons, All-head, All-tail}
use Rattle.std.proofs.lemmas.Option.{same_Some}

-- the others stay
pub get_set_other : {A : Type 0} (items : List A) (place other : ℕ) (item : A) → other ≢ place → slice_get (slice_set items place item) other ≡ slice_get items other
get_set_other [] place other item differs = refl
get_set_other (x ∷ items) zero zero item differs = absurd (differs refl)
get_set_other (x ∷ items) zero (suc other) item differs = refl
get_set_other (x ∷ items) (suc place) zero item differs = refl
get_set_other (x ∷ items) (suc place) (suc other) item differs = get_set_other items place other item (λ same. differs (ap suc same))

-- it is the one that is found at its place
pub get_set_same : {A : Type 0} (items : List A) (place : ℕ) (item found : A) → slice_get (slice_set items place item) place ≡ Some found → item ≡ found
get_set_same [] place item found there = absurd cc
get_set_same (x ∷ items) zero item found there = same_Some item found there
get_set_same (x ∷ items) (suc place) item found there = get_set_same items place item found there

-- ---- two lists, side by side

-- what holds of an item and of the one beside it
pub zip_at : {A B : Type 0} (R : A → B → Type 0) (items : List A) (others : List B) (place : ℕ) (item : A) (default : B) → AllZip R items others → slice_get items place ≡ Some item → R item (get_or others place default)
zip_at R [] others place item default all there = absurd cc
zip_at R (x ∷ items) [] place item default all there = absurd all
zip_at R (x ∷ items) (y ∷ others) zero item default all there = subst (λ (x : _). R x y) (same_Some x item there) all.0
zip_at R (x ∷ items) (y ∷ others) (suc place) item default all there = zip_at R items others place item default all.1 there

-- both are set at one place
pub zip_set : {A B : Type 0} (R : A → B → Type 0) (items : List A) (others : List B) (place : ℕ) (item : A) (other : B) → AllZip R items others → R item other → AllZip R (slice_set items place item) (slice_set others place other)
zip_set R [] [] place item other all here = tt
zip_set R [] (y ∷ others) place item other all here = absurd all
zip_set R (x ∷ items) [] place item other all here = absurd all
zip_set R (x ∷ items) (y ∷ others) zero item other all here = (here, all.1)
zip_set R (x ∷ items) (y ∷ others) (suc place) item other all here = (all.0, zip_set R items others place item other all.1 here)

-- one is set at a place, to what fits the item beside it as what was there does
pub zip_step : {A B : Type 0} (R : A → B → Type 0) (items : List A) (others : List B) (place : ℕ) (before after : A) → AllZip R items others → slice_get items place ≡ Some before → ((other : B) → R before other → R after other) → AllZip R (slice_set items place after) others
zip_step R [] others place before after all there keeps = all
zip_step R (x ∷ items) [] place before after all there keeps = absurd all
zip_step R (x ∷ items) (y ∷ others) zero before after all there keeps = (keeps y (subst (λ (x : _). R x y) (same_Some x before there) all.0), all.1)
zip_step R (x ∷ items) (y ∷ others) (suc place) before after all there keeps = (all.0, zip_step R items others place before after all.1 there keeps)

pub zip_weaker : {A B : Type 0} (R Q : A → B → Type 0) (items : List A) (others : List B) → ((item : A) (other : B) → R item other → Q item other) → AllZip R items others → AllZip Q items others
zip_weaker R Q [] [] weaker all = tt
zip_weaker R Q [] (y ∷ others) weaker all = absurd all
zip_weaker R Q (x ∷ items) [] weaker all = absurd all
zip_weaker R Q (x ∷ items) (y ∷ others) weaker all = (weaker x y all.0, zip_weaker R Q items others weaker all.1)

-- what follows for each of the second list
pub zip_second : {A B : Type 0} (R : A → B → Type 0) (P : B → Type 0) → ((x : A) (y : B) → R x y → P y) → (xs : List A) (ys : List B) → AllZip R xs ys → All P ys
zip_second R P then [] [] all = All-nil P
zip_second R P then [] (b ∷ ys) all = absurd all
zip_second R P then (a ∷ xs) [] all = absurd all
zip_second R P then (a ∷ xs) (b ∷ ys) all = All-cons P b ys (then a b all.0) (zip_second R P then xs ys all.1)

-- what follows for each of a list from what holds of the one beside it
pub all_across : {A B : Type 0} (R : A → B → Type 0) (P : A → Type 0) (Q : B → Type 0) → ((x : A) (y : B) → R x y → P x → Q y) → (xs : List A) (ys : List B) → AllZip R xs ys → All P xs → All Q ys
all_across R P Q then [] [] all are = All-nil Q
all_across R P Q then [] (y ∷ ys) all are = absurd all
all_across R P Q then (x ∷ xs) [] all are = absurd all
all_across R P Q then (x ∷ xs) (y ∷ ys) all are = All-cons Q y ys (then x y all.0 (All-head P x xs are)) (all_across R P Q then xs ys all.1 (All-tail P x xs are))

-- and for each with what stands beside both
pub zip_across : {A B C : Type 0} (R : A → B → Type 0) (P : A → C → Type 0) (Q : B → C → Type 0) → ((x : A) (y : B) (z : C) → R x y → P x z → Q y z) → (xs : List A) (ys : List B) (zs : List C) → AllZip R xs ys → AllZip P xs zs → AllZip Q ys zs
zip_across R P Q then [] [] [] all are = tt
zip_across R P Q then [] [] (z ∷ zs) all are = absurd are
zip_across R P Q then [] (y ∷ ys) zs all are = absurd all
zip_across R P Q then (x ∷ xs) [] zs all are = absurd all
zip_across R P Q then (x ∷ xs) (y ∷ ys) [] all are = absurd are
zip_across R P Q then (x ∷ xs) (y ∷ ys) (z ∷ zs) all are = (then x y z all.0 are.0, zip_across R P Q then xs ys zs all.1 are.1)

-- beside an item of the second list there is one of the first
pub beside : {A B : Type 0} (R : A → B → Type 0) (xs : List A) (ys : List B) (place : ℕ) (y : B) → AllZip R xs ys → slice_get ys place ≡ Some y → (x : A) × (slice_get xs place ≡ Some x) × R x y
beside R [] [] place y all there = absurd cc
beside R [] (b ∷ ys) place y all there = absurd all
beside R (a ∷ xs) [] place y all there = absurd all
beside R (a ∷ xs) (b ∷ ys) zero y all there = (a, refl, subst (λ (b : _). R a b) (same_Some b y there) all.0)
beside R (a ∷ xs) (b ∷ ys) (suc place) y all there = beside R xs ys place y all.1 there

-- the other way round
pub zip_turned : {A B : Type 0} (R : A → B → Type 0) (xs : List A) (ys : List B) → AllZip R xs ys → AllZip (λ y x. R x y) ys xs
zip_turned R [] [] all = tt
zip_turned R [] (y ∷ ys) all = absurd all
zip_turned R (x ∷ xs) [] all = absurd all
zip_turned R (x ∷ xs) (y ∷ ys) all = (all.0, zip_turned R xs ys all.1)
