-- Lists in which no element comes before one that stands in front of it.
use Rattle.std.proofs.Common.{◌≡◌, Bool, true, false, cond, List, [], ◌∷◌, ◌++◌, refl, ap, ◌∙◌}
use Rattle.std.specs.Prelude.{filter}
use Rattle.std.specs.List.{AllByRecursion, flat_map}
use Rattle.std.specs.Cmp.{IsStrictWeakOrder}
use Rattle.stamp_merge.proofs.lemmas.Ordering.{NoneBefore, IsRising, IsInOrder}

-- ---- what holds of each element

module _ {X : Type 0} (P : X → Type 0) where
  pub all_both : (xs ys : List X) → AllByRecursion P xs → AllByRecursion P ys → AllByRecursion P (xs ++ ys)
  all_both [] ys first second = second
  all_both (x ∷ xs) ys first second = (first.0, all_both xs ys first.1 second)

  pub all_first : (xs ys : List X) → AllByRecursion P (xs ++ ys) → AllByRecursion P xs
  all_first [] ys all = tt
  all_first (x ∷ xs) ys all = (all.0, all_first xs ys all.1)

  pub all_second : (xs ys : List X) → AllByRecursion P (xs ++ ys) → AllByRecursion P ys
  all_second [] ys all = all
  all_second (x ∷ xs) ys all = all_second xs ys all.1

  pub all_so : (xs : List X) → ((x : X) → P x) → AllByRecursion P xs
  all_so [] each = tt
  all_so (x ∷ xs) each = (each x, all_so xs each)

  pub all_as : (Q : X → Type 0) (xs : List X) → ((x : X) → P x → Q x) → AllByRecursion P xs → AllByRecursion Q xs
  all_as Q [] each all = tt
  all_as Q (x ∷ xs) each all = (each x all.0, all_as Q xs each all.1)

  pub all_kept : (test : X → Bool) (xs : List X) → AllByRecursion P xs → AllByRecursion P (filter test xs)
  all_kept test [] all = tt
  all_kept test (x ∷ xs) all = at_first (test x) (all_kept test xs all.1)
    where
      at_first : (b : Bool) → AllByRecursion P (filter test xs) → AllByRecursion P (cond b (x ∷ filter test xs) (filter test xs))
      at_first true rest = (all.0, rest)
      at_first false rest = rest

  pub all_flat : {Y : Type 0} (f : Y → List X) (ys : List Y) → ((y : Y) → AllByRecursion P (f y)) → AllByRecursion P (flat_map f ys)
  all_flat f [] each = tt
  all_flat f (y ∷ ys) each = all_both (f y) (flat_map f ys) (each y) (all_flat f ys each)

-- ---- what a test keeps

module _ {X : Type 0} (test : X → Bool) where
  pub passed : (xs : List X) → AllByRecursion (λ x. test x ≡ true) (filter test xs)
  passed [] = tt
  passed (x ∷ xs) = at (test x) refl (passed xs)
    where
      at : (b : Bool) → test x ≡ b → AllByRecursion (λ x. test x ≡ true) (filter test xs) → AllByRecursion (λ x. test x ≡ true) (cond b (x ∷ filter test xs) (filter test xs))
      at true is rest = (is, rest)
      at false is rest = rest

  pub all_pass : (xs : List X) → AllByRecursion (λ x. test x ≡ true) xs → filter test xs ≡ xs
  all_pass [] all = refl
  all_pass (x ∷ xs) all = λ i. cond (all.0 i) (x ∷ all_pass xs all.1 i) (all_pass xs all.1 i)

  pub none_pass : (xs : List X) → AllByRecursion (λ x. test x ≡ false) xs → filter test xs ≡ []
  none_pass [] none = refl
  none_pass (x ∷ xs) none = ap (λ (b : Bool). cond b (x ∷ filter test xs) (filter test xs)) none.0 ∙ none_pass xs none.1

-- ---- rising lists

module _ {X : Type 0} (before : X → X → Bool) (order : IsStrictWeakOrder before) where
  -- what doesn't come before an element comes before none that this one doesn't come before
  pub none_further : (x y : X) (ys : List X) → before y x ≡ false → NoneBefore before y ys → NoneBefore before x ys
  none_further x y ys least none = all_as (λ z. before z y ≡ false) (λ z. before z x ≡ false) ys (λ z later. order.chain z y x later least) none

  pub rising_from : (xs : List X) → IsInOrder before xs → IsRising before xs
  rising_from [] up = tt
  rising_from (x ∷ []) up = (tt, tt)
  rising_from (x ∷ y ∷ ys) up = let rest = rising_from (y ∷ ys) up.1 in ((up.0, none_further x y ys up.0 rest.0), rest)

  pub rising_both : (xs ys : List X) → IsRising before xs → IsRising before ys → AllByRecursion (λ x. NoneBefore before x ys) xs → IsRising before (xs ++ ys)
  rising_both [] ys first second apart = second
  rising_both (x ∷ xs) ys first second apart = (all_both (λ z. before z x ≡ false) xs ys first.0 apart.0, rising_both xs ys first.1 second apart.1)

  pub rising_first : (xs ys : List X) → IsRising before (xs ++ ys) → IsRising before xs
  rising_first [] ys up = tt
  rising_first (x ∷ xs) ys up = (all_first (λ z. before z x ≡ false) xs ys up.0, rising_first xs ys up.1)

  pub rising_second : (xs ys : List X) → IsRising before (xs ++ ys) → IsRising before ys
  rising_second [] ys up = up
  rising_second (x ∷ xs) ys up = rising_second xs ys up.1

  pub rising_across : (xs ys : List X) → IsRising before (xs ++ ys) → AllByRecursion (λ x. NoneBefore before x ys) xs
  rising_across [] ys up = tt
  rising_across (x ∷ xs) ys up = (all_second (λ z. before z x ≡ false) xs ys up.0, rising_across xs ys up.1)

  pub rising_kept : (test : X → Bool) (xs : List X) → IsRising before xs → IsRising before (filter test xs)
  rising_kept test [] up = tt
  rising_kept test (x ∷ xs) up = at_first (test x) (rising_kept test xs up.1)
    where
      at_first : (b : Bool) → IsRising before (filter test xs) → IsRising before (cond b (x ∷ filter test xs) (filter test xs))
      at_first true rest = (all_kept (λ z. before z x ≡ false) test xs up.0, rest)
      at_first false rest = rest

  -- an element is put in between
  pub rising_between : (xs : List X) (x : X) (ys zs : List X) → IsRising before (xs ++ x ∷ zs) → IsRising before (xs ++ ys) → NoneBefore before x ys → IsRising before (xs ++ x ∷ ys)
  rising_between xs x ys zs first second none =
      rising_both xs (x ∷ ys) (rising_first xs ys second) (none, rising_second xs ys second) (each xs (rising_across xs (x ∷ zs) first) (rising_across xs ys second))
    where
      each : (ws : List X) → AllByRecursion (λ w. NoneBefore before w (x ∷ zs)) ws → AllByRecursion (λ w. NoneBefore before w ys) ws → AllByRecursion (λ w. NoneBefore before w (x ∷ ys)) ws
      each [] a b = tt
      each (w ∷ ws) a b = ((a.0.0, b.0), each ws a.1 b.1)
