-- A list can be sorted in one way, where elements that compare as equal are the same.
use Rattle.std.proofs.Common.{◌≡◌, ℕ, suc, ◌+◌, ◌<◌, Bool, true, false, if◌then◌else◌, List, [], ◌∷◌, ◌++◌, length, get_or, refl, ap, sym, subst, ◌∙◌, arith}
use Rattle.std.specs.Prelude.{sum_by}
use Rattle.std.specs.Cmp.{IsStrictWeakOrder, IsTotalOrder}
use Rattle.std.specs.declared.cmp.Ordering.{Ordering}
use Rattle.std.specs.Ordering.{is_lt}
use Rattle.std.specs.List.{AllByRecursion}
use Rattle.std.specs.List.Sorted.{IsSorted, IsSortedBy, IsPermutation}
use Rattle.std.proofs.lemmas.List.MinMax.{ranks_by}
use Rattle.std.proofs.lemmas.List.Sums.{sum_by-cons}
use Rattle.std.proofs.lemmas.List.Sorted.{sorted_far, sum_by-IsPermutation}
use Rattle.std.proofs.lemmas.Map.Lookups.{CmpEqualImpliesEq}
use Rattle.stamp_merge.specs.Ordering.{insert_by, in_order_by}
use Rattle.stamp_merge.proofs.lemmas.Comparing.{neither}
use Rattle.stamp_merge.proofs.lemmas.Ordering.{in_order_by-permutation, in_order_by-rises, in_order_by-sorted, in_order_from, insert_by-front, IsNotAfter, sorted_rest}

-- ---- counts

-- 1 for what passes a test, and 0 for all else
abbrev passed : Bool → ℕ
passed true = 1
passed false = 0

passed-zero : (b : Bool) → passed b ≡ 0 → b ≡ false
passed-zero true h = absurd (omega (arith, h))
passed-zero false h = refl

-- where no element passes a test, the count is 0
none_pass : {X : Type 0} (test : X → Bool) (xs : List X) → AllByRecursion (λ x. test x ≡ false) xs → sum_by (λ x. passed (test x)) xs ≡ 0
none_pass test [] all = refl
none_pass test (x ∷ xs) all = omega (arith, sum_by-cons (λ y. passed (test y)) x xs, none_pass test xs all.1, ap passed all.0)

-- ---- sorted lists

module _ {X : Type 0} (cmp : X → X → Ordering) (total : IsTotalOrder cmp) (exact : CmpEqualImpliesEq cmp) where
  abbrev lt : X → X → Bool
  lt a b = is_lt (cmp a b)

  order : IsStrictWeakOrder lt
  order = ranks_by total (λ x. x)

  pub tied : (a b : X) → lt a b ≡ false → lt b a ≡ false → a ≡ b
  tied a b there back = exact a b (neither (cmp a b) (cmp b a) (total.antisymm a b) there back)

  -- in a sorted list nothing is less than the first element
  rest_not_less : (x : X) (ys : List X) → ((k : ℕ) (d : X) → k < length ys → lt (get_or ys k d) x ≡ false) → AllByRecursion (λ y. lt y x ≡ false) ys
  rest_not_less x [] h = tt
  rest_not_less x (y ∷ ys) h = (h 0 y (omega arith), rest_not_less x ys (λ k d within. h (suc k) d (omega (arith, within))))

  pub none_less : (x : X) (xs : List X) → IsSortedBy lt (x ∷ xs) → AllByRecursion (λ y. lt y x ≡ false) (x ∷ xs)
  none_less x xs sorted = rest_not_less x (x ∷ xs) (λ k d within. sorted_far lt order (x ∷ xs) sorted 0 k d (omega arith) within)

  first_not_less : (x y : X) (xs ys : List X) → IsSortedBy lt (x ∷ xs) → ((f : X → ℕ) → sum_by f (x ∷ xs) ≡ sum_by f (y ∷ ys)) → lt y x ≡ false
  first_not_less x y xs ys sorted same =
      let count : X → ℕ = λ z. passed (lt z x) in
      let none : sum_by count (x ∷ xs) ≡ 0 = none_pass (λ z. lt z x) (x ∷ xs) (none_less x xs sorted) in
      let some : sum_by count (y ∷ ys) ≡ count y + sum_by count ys = sum_by-cons count y ys in
      passed-zero (lt y x) (omega (arith, same count, none, some))

  -- sorted lists with the same elements are one list
  pub same_counts : (xs ys : List X) → IsSortedBy lt xs → IsSortedBy lt ys → ((f : X → ℕ) → sum_by f xs ≡ sum_by f ys) → xs ≡ ys
  same_counts [] [] first second same = refl
  same_counts [] (y ∷ ys) first second same = absurd (omega (arith, sum_by-cons (λ _. 1) y ys, same (λ _. 1)))
  same_counts (x ∷ xs) [] first second same = absurd (omega (arith, sum_by-cons (λ _. 1) x xs, same (λ _. 1)))
  same_counts (x ∷ xs) (y ∷ ys) first second same =
      let e : x ≡ y = tied x y (first_not_less y x ys xs second (λ f. sym (same f))) (first_not_less x y xs ys first same) in
      let rest : xs ≡ ys = same_counts xs ys (sorted_rest lt x xs first) (sorted_rest lt y ys second) (λ f. omega (arith, same f, sum_by-cons f x xs, sum_by-cons f y ys, ap f e)) in
      cc

  -- elements that were sorted are the elements in order
  pub sorted-in_order : (xs sorted : List X) → IsPermutation xs sorted → IsSorted cmp sorted → sorted ≡ in_order_by lt xs
  sorted-in_order xs sorted moved up =
      same_counts sorted (in_order_by lt xs) up (in_order_by-rises lt order xs)
      (λ f. sum_by-IsPermutation f xs sorted moved ∙ sym (sum_by-IsPermutation f xs (in_order_by lt xs) (in_order_by-permutation lt xs)))

  -- ---- elements that are put in behind others

  -- an element that comes before none of the front is put in behind it
  pub insert_by-behind : (x : X) (front back : List X) → IsSortedBy lt (front ++ back) → AllByRecursion (λ y. lt x y ≡ false) front
      → insert_by lt x (front ++ back) ≡ front ++ insert_by lt x back
  unfolding insert_by
  insert_by-behind x [] back sorted behind = refl
  insert_by-behind x (y ∷ front) back sorted behind =
      at_place (lt y x) refl (insert_by-behind x front back (sorted_rest lt y (front ++ back) sorted) behind.1)
    where
      at_place : (b : Bool) → lt y x ≡ b → insert_by lt x (front ++ back) ≡ front ++ insert_by lt x back
          → (if b then y ∷ insert_by lt x (front ++ back) else x ∷ y ∷ (front ++ back)) ≡ y ∷ (front ++ insert_by lt x back)
      at_place true earlier rest = ap (λ (zs : List X). y ∷ zs) rest
      at_place false later rest =
          let is : x ≡ y = tied x y behind.0 later in
          let least : IsNotAfter lt x (front ++ back) = subst (λ z. IsNotAfter lt z (front ++ back)) (sym is) (in_order_from lt (y ∷ (front ++ back)) sorted).0 in
          let first : insert_by lt x (front ++ back) ≡ x ∷ (front ++ back) = insert_by-front lt x (front ++ back) least in
          cc

  -- elements of which none comes before the front are put in behind it
  pub in_order_by-behind : (more front back : List X) → IsSortedBy lt (front ++ back) → AllByRecursion (λ x. AllByRecursion (λ y. lt x y ≡ false) front) more
      → (rest : List X) × (in_order_by lt (more ++ (front ++ back)) ≡ front ++ rest)
  unfolding in_order_by
  in_order_by-behind [] front back sorted behind = (back, in_order_by-sorted lt (front ++ back) sorted)
  in_order_by-behind (x ∷ more) front back sorted behind =
      let others = in_order_by-behind more front back sorted behind.1 in
      let rises : IsSortedBy lt (front ++ others.0) = subst (IsSortedBy lt) others.1 (in_order_by-rises lt order (more ++ (front ++ back))) in
      (insert_by lt x others.0, ap (insert_by lt x) others.1 ∙ insert_by-behind x front others.0 rises behind.0)
