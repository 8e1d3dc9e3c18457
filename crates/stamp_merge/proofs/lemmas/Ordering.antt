-- Elements put in order: they are the same elements, none comes before the one in front of it, and those that are in
-- order already keep their places.
use Rattle.std.proofs.Common.{◌≡◌, ℕ, zero, suc, ◌+◌, ◌<◌, Bool, true, false, cond, List, [], ◌∷◌, if◌then◌else◌, length, get_or, map, refl, ap, sym, subst, ◌∙◌, arith, add-one}
use Rattle.std.specs.Prelude.{filter}
use Rattle.std.specs.List.{AllByRecursion}
use Rattle.std.specs.Cmp.{IsStrictWeakOrder}
use Rattle.std.specs.List.Sorted.{IsPermutation, IsSortedBy}
use Rattle.std.proofs.lemmas.List.Sorted.{IsPermutation-refl, IsPermutation-cons, IsPermutation-middle, IsPermutation-trans}
use Rattle.stamp_merge.specs.Ordering.{insert_by, in_order_by}

module _ {X : Type 0} (before : X → X → Bool) where
  -- ---- the same elements

  inserted : (x y : X) (ys : List X) (b : Bool) → IsPermutation (x ∷ ys) (insert_by before x ys) → IsPermutation (x ∷ y ∷ ys) (if b then y ∷ insert_by before x ys else x ∷ y ∷ ys)
  inserted x y ys true h =
      IsPermutation-trans (x ∷ y ∷ ys) (y ∷ x ∷ ys) (y ∷ insert_by before x ys) (IsPermutation-middle (x ∷ []) y ys) (IsPermutation-cons y (x ∷ ys) (insert_by before x ys) h)
  inserted x y ys false h = IsPermutation-refl (x ∷ y ∷ ys)

  pub insert_by-permutation : (x : X) (ys : List X) → IsPermutation (x ∷ ys) (insert_by before x ys)
  unfolding insert_by
  insert_by-permutation x [] = IsPermutation-refl (x ∷ [])
  insert_by-permutation x (y ∷ ys) = inserted x y ys (before y x) (insert_by-permutation x ys)

  -- the elements in order are the same elements
  pub in_order_by-permutation : (xs : List X) → IsPermutation xs (in_order_by before xs)
  unfolding in_order_by
  in_order_by-permutation [] = IsPermutation-refl []
  in_order_by-permutation (x ∷ xs) =
      IsPermutation-trans (x ∷ xs) (x ∷ in_order_by before xs) (insert_by before x (in_order_by before xs)) (IsPermutation-cons x xs (in_order_by before xs) (in_order_by-permutation xs)) (insert_by-permutation x (in_order_by before xs))

  -- ---- in order

  -- the first of the elements, if there is one, does not come before this one
  abbrev pub IsNotAfter : X → List X → Type 0
  IsNotAfter x [] = Unit {0}
  IsNotAfter x (y ∷ ys) = before y x ≡ false

  -- no element comes before the one that stands in front of it
  abbrev pub IsInOrder : List X → Type 0
  IsInOrder [] = Unit {0}
  IsInOrder (x ∷ xs) = IsNotAfter x xs × IsInOrder xs

  not_after_inserted : IsStrictWeakOrder before → (first x : X) (ys : List X) → before first x ≡ true → IsNotAfter first ys → IsNotAfter first (insert_by before x ys)
  unfolding insert_by
  not_after_inserted order first x [] earlier h = order.one_way first x earlier
  not_after_inserted order first x (y ∷ ys) earlier h =
      elim (before y x) as (λ (b : Bool). IsNotAfter first (if b then y ∷ insert_by before x ys else x ∷ y ∷ ys)) [ true ↦ h | false ↦ order.one_way first x earlier ]

  in_order_inserted : IsStrictWeakOrder before → (x : X) (ys : List X) → IsInOrder ys → IsInOrder (insert_by before x ys)
  unfolding insert_by
  in_order_inserted order x [] h = (tt, tt)
  in_order_inserted order x (y ∷ ys) h = at_first (before y x) refl (in_order_inserted order x ys h.1)
    where
      at_first : (b : Bool) → before y x ≡ b → IsInOrder (insert_by before x ys) → IsInOrder (if b then y ∷ insert_by before x ys else x ∷ y ∷ ys)
      at_first true earlier behind = (not_after_inserted order y x ys earlier h.0, behind)
      at_first false earlier behind = (earlier, h)

  all_in_order : IsStrictWeakOrder before → (xs : List X) → IsInOrder (in_order_by before xs)
  unfolding in_order_by
  all_in_order order [] = tt
  all_in_order order (x ∷ xs) = in_order_inserted order x (in_order_by before xs) (all_in_order order xs)

  rising : (xs : List X) → IsInOrder xs → (k : ℕ) (d : X) → suc k < length xs → before (get_or xs (suc k) d) (get_or xs k d) ≡ false
  rising [] h k d within = absurd (omega (arith, within))
  rising (x ∷ []) h k d within = absurd (omega (arith, within))
  rising (x ∷ y ∷ ys) h zero d within = h.0
  rising (x ∷ y ∷ ys) h (suc k) d within = rising (y ∷ ys) h.1 k d (omega (arith, within))

  sorted_from : (xs : List X) → IsInOrder xs → IsSortedBy before xs
  sorted_from xs h k d least within = rw add-one (rising xs h k d (omega (arith, within)))

  -- no element comes before the one in front of it
  pub in_order_by-rises : IsStrictWeakOrder before → (xs : List X) → IsSortedBy before (in_order_by before xs)
  in_order_by-rises order xs = sorted_from (in_order_by before xs) (all_in_order order xs)

  -- ---- elements that are in order already

  pub sorted_rest : (x : X) (xs : List X) → IsSortedBy before (x ∷ xs) → IsSortedBy before xs
  sorted_rest x xs sorted k d least within =
      let next : suc k + 1 ≡ suc (k + 1) = omega arith in
      subst (λ j. before (get_or (x ∷ xs) j d) (get_or xs k d) ≡ false) next (sorted (suc k) d (omega arith) (omega (arith, within)))

  pub in_order_from : (xs : List X) → IsSortedBy before xs → IsInOrder xs
  in_order_from [] sorted = tt
  in_order_from (x ∷ []) sorted = (tt, tt)
  in_order_from (x ∷ y ∷ ys) sorted = (sorted 0 x (omega arith) (omega arith), in_order_from (y ∷ ys) (sorted_rest x (y ∷ ys) sorted))

  pub insert_by-front : (x : X) (xs : List X) → IsNotAfter x xs → insert_by before x xs ≡ x ∷ xs
  unfolding insert_by
  insert_by-front x [] h = refl
  insert_by-front x (y ∷ ys) h = rw h

  stay : (xs : List X) → IsInOrder xs → in_order_by before xs ≡ xs
  unfolding in_order_by
  stay [] h = refl
  stay (x ∷ xs) h = ap (insert_by before x) (stay xs h.1) ∙ insert_by-front x xs h.0

  -- elements that are in order stay as they are
  pub in_order_by-sorted : (xs : List X) → IsSortedBy before xs → in_order_by before xs ≡ xs
  in_order_by-sorted xs sorted = stay xs (in_order_from xs sorted)

  -- ---- those of the elements that pass a test

  -- none of the elements comes before this one
  abbrev pub NoneBefore : X → List X → Type 0
  NoneBefore x ys = AllByRecursion (λ y. before y x ≡ false) ys

  -- no element comes before one that stands in front of it
  abbrev pub IsRising : List X → Type 0
  IsRising [] = Unit {0}
  IsRising (x ∷ xs) = NoneBefore x xs × IsRising xs

  others_stay : (test : X → Bool) (x : X) (ys : List X) → test x ≡ false → filter test (insert_by before x ys) ≡ filter test ys
  unfolding insert_by
  others_stay test x [] other = rw other refl
  others_stay test x (y ∷ ys) other = at_place (before y x) (others_stay test x ys other)
    where
      at_place : (b : Bool) → filter test (insert_by before x ys) ≡ filter test ys → filter test (cond b (y ∷ insert_by before x ys) (x ∷ y ∷ ys)) ≡ filter test (y ∷ ys)
      at_place true behind = ap (λ (zs : List X). cond (test y) (y ∷ zs) zs) behind
      at_place false behind = rw other refl

  own_in_front : (test : X → Bool) (x : X) (ys : List X) → test x ≡ true → NoneBefore x (filter test ys) → filter test (insert_by before x ys) ≡ x ∷ filter test ys
  unfolding insert_by
  own_in_front test x [] own none = rw own refl
  own_in_front test x (y ∷ ys) own none = at_place (before y x) (test y) refl refl none (own_in_front test x ys own)
    where
      at_place : (b same : Bool) → before y x ≡ b → test y ≡ same → NoneBefore x (cond same (y ∷ filter test ys) (filter test ys))
          → (NoneBefore x (filter test ys) → filter test (insert_by before x ys) ≡ x ∷ filter test ys)
          → filter test (cond b (y ∷ insert_by before x ys) (x ∷ y ∷ ys)) ≡ x ∷ cond (test y) (y ∷ filter test ys) (filter test ys)
      at_place true true is_before is_own none behind = let both : true ≡ false = sym is_before ∙ none.0 in absurd cc
      at_place true false is_before is_own none behind = rw is_own (behind none)
      at_place false same is_before is_own none behind = rw own refl

  -- those that pass a test keep their order, where they are in order
  pub in_order_by-filter : (test : X → Bool) (xs : List X) → IsRising (filter test xs) → filter test (in_order_by before xs) ≡ filter test xs
  unfolding in_order_by
  in_order_by-filter test [] rising = refl
  in_order_by-filter test (x ∷ xs) rising = at_first (test x) refl rising (in_order_by-filter test xs)
    where
      at_first : (own : Bool) → test x ≡ own → IsRising (cond own (x ∷ filter test xs) (filter test xs)) → (IsRising (filter test xs) → filter test (in_order_by before xs) ≡ filter test xs)
          → filter test (insert_by before x (in_order_by before xs)) ≡ cond own (x ∷ filter test xs) (filter test xs)
      at_first true is_own rising behind =
          let same = behind rising.1 in
          own_in_front test x (in_order_by before xs) is_own (subst (NoneBefore x) (sym same) rising.0) ∙ ap (λ (zs : List X). x ∷ zs) same
      at_first false is_own rising behind = others_stay test x (in_order_by before xs) is_own ∙ behind rising

-- ---- elements seen through a function

module _ {X Y : Type 0} (view : X → Y) (before : Y → Y → Bool) where
  abbrev through : X → X → Bool
  through a b = before (view a) (view b)

  insert_by-map : (x : X) (xs : List X) → map view (insert_by through x xs) ≡ insert_by before (view x) (map view xs)
  unfolding insert_by
  insert_by-map x [] = refl
  insert_by-map x (y ∷ ys) = at_place (through y x) (insert_by-map x ys)
    where
      at_place : (b : Bool) → map view (insert_by through x ys) ≡ insert_by before (view x) (map view ys)
          → map view (cond b (y ∷ insert_by through x ys) (x ∷ y ∷ ys)) ≡ cond b (view y ∷ insert_by before (view x) (map view ys)) (view x ∷ view y ∷ map view ys)
      at_place true behind = ap (λ (zs : List Y). view y ∷ zs) behind
      at_place false behind = refl

  -- what elements are seen as is in the order in which they are
  pub in_order_by-map : (xs : List X) → map view (in_order_by through xs) ≡ in_order_by before (map view xs)
  unfolding in_order_by
  in_order_by-map [] = refl
  in_order_by-map (x ∷ xs) = insert_by-map x (in_order_by through xs) ∙ ap (insert_by before (view x)) (in_order_by-map xs)

module _ {X Y : Type 0} (view : X → Y) (before : X → X → Bool) (less : Y → Y → Bool) (kept : (a b : X) → before a b ≡ false → less (view a) (view b) ≡ false) where
  in_order-map : (xs : List X) → IsInOrder before xs → IsInOrder less (map view xs)
  in_order-map [] h = tt
  in_order-map (x ∷ []) h = (tt, tt)
  in_order-map (x ∷ y ∷ ys) h = (kept y x h.0, in_order-map (y ∷ ys) h.1)

  -- what sorted elements are seen as is sorted, by an order that theirs keeps
  pub IsSortedBy-map : (xs : List X) → IsSortedBy before xs → IsSortedBy less (map view xs)
  IsSortedBy-map xs sorted = sorted_from less (map view xs) (in_order-map xs (in_order_from before xs sorted))
