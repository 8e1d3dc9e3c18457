-- The stamps of all lists, sorted, are those in the order in which they are taken.
use Rattle.std.proofs.Math.Seq.{drop-cons}
use Rattle.std.proofs.Common.{Vec, Global, drop, add-one, ◌≡◌, ℕ, zero, suc, ◌+◌, ◌<◌, ◌≤◌, cond, List, [], ◌∷◌, ◌++◌, map, length, get_or, eqb, refl, ap, ◌∙◌, subst, arith}
use Rattle.std.specs.Prelude.{◌==◌, count_by, sum_by}
use Rattle.std.specs.Cmp.{IsTotalOrder}
use Rattle.std.specs.Ordering.{nat_cmp}
use Rattle.std.specs.List.{flat_map, enumerate_from}
use Rattle.std.specs.List.Sorted.{IsSorted, IsSortedBy, IsPermutation}
use Rattle.std.proofs.lemmas.Cmp.{then_total, on_total, nat_cmp_total}
use Rattle.std.proofs.lemmas.Bool.Decides.{nat_tests}
use Rattle.std.proofs.lemmas.List.{map-append, drop_all}
use Rattle.std.proofs.lemmas.List.MinMax.{ranks_by}
use Rattle.std.proofs.lemmas.List.Sums.{sum_by-cons, sum_by-append}
use Rattle.std.proofs.lemmas.List.Sorted.{IsPermutation-map, sum_by-IsPermutation}
use Rattle.std.proofs.lemmas.Map.Lookups.{CmpEqualImpliesEq, exact_unsigned}
use Rattle.stamp_merge.specs.declared.merge.MergeKey.{MergeKey}
use Rattle.stamp_merge.specs.Merging.{list_keys, keys_of, key_cmp, stamp_before, merged, merge_order}
use Rattle.stamp_merge.proofs.lemmas.Comparing.{then_equal}
use Rattle.stamp_merge.proofs.lemmas.Ordering.{in_order_by-permutation, in_order_by-rises}
use Rattle.stamp_merge.proofs.lemmas.Sorted.{sorted-in_order, same_counts}

pub key_total : IsTotalOrder key_cmp
key_total = then_total (on_total (λ key. key.stamp) nat_cmp_total) (on_total (λ key. key.list) nat_cmp_total)

abbrev pub key_at : ℕ → ℕ → MergeKey
key_at stamp list = record { stamp = stamp; list = list }

pub key_exact : CmpEqualImpliesEq key_cmp
key_exact a b same =
    let parts = then_equal (nat_cmp a.stamp b.stamp) (nat_cmp a.list b.list) same in
    let stamps : key_at a.stamp a.list ≡ key_at b.stamp a.list = ap (λ s. key_at s a.list) (exact_unsigned a.stamp b.stamp parts.0) in
    stamps ∙ ap (λ n. key_at b.stamp n) (exact_unsigned a.list b.list parts.1)

-- ---- the stamps in order

pub merged-rises : (lists : List (List ℕ)) → IsSortedBy stamp_before (merged lists)
merged-rises lists = in_order_by-rises stamp_before (ranks_by key_total (λ key. key)) (keys_of lists)

-- sorted stamps that are the same are one list
pub keys_same : (keys others : List MergeKey) → IsSortedBy stamp_before keys → IsSortedBy stamp_before others
    → ((f : MergeKey → ℕ) → sum_by f keys ≡ sum_by f others) → keys ≡ others
keys_same keys others first second same = same_counts key_cmp key_total key_exact keys others first second same

pub keys_sorted : (lists : List (List ℕ)) (sorted : List MergeKey) → IsPermutation (keys_of lists) sorted → IsSorted key_cmp sorted → sorted ≡ merged lists
keys_sorted lists sorted moved up = sorted-in_order key_cmp key_total key_exact (keys_of lists) sorted moved up

-- ---- the stamps of the lists that are left

abbrev pub Stamps : Type 0
Stamps = Vec ℕ Global

-- the stamps of the lists from this one on
abbrev pub keys_from : ℕ → List Stamps → List MergeKey
keys_from n lists = flat_map list_keys (enumerate_from n (map (λ list. list.items) (drop n lists)))

-- they are those of this list and of the ones behind it
pub keys_from-more : (n : ℕ) (lists : List Stamps) (d : Stamps) → n < length lists → keys_from n lists ≡ list_keys (n, (get_or lists n d).items) ++ keys_from (n + 1) lists
keys_from-more n lists d within = rw (drop-cons lists n d within, add-one) refl

-- ---- how often each list is taken from

abbrev is_list : ℕ → ℕ → ℕ
is_list n list = cond (eqb list n) 1 0

abbrev numbers : List MergeKey → List ℕ
numbers keys = map (λ key. key.list) keys

same_list : (n : ℕ) (stamps : List ℕ) → sum_by (is_list n) (numbers (list_keys (n, stamps))) ≡ length stamps
same_list n [] = refl
same_list n (stamp ∷ stamps) =
    let one : is_list n n ≡ 1 = grind (arith, nat_tests) in
    omega (arith, one, sum_by-cons (is_list n) n (numbers (list_keys (n, stamps))), same_list n stamps)

other_list : (n list : ℕ) (stamps : List ℕ) → n < list → sum_by (is_list n) (numbers (list_keys (list, stamps))) ≡ 0
other_list n list [] less = refl
other_list n list (stamp ∷ stamps) less =
    let none : is_list n list ≡ 0 = grind (arith, nat_tests) in
    omega (arith, none, sum_by-cons (is_list n) list (numbers (list_keys (list, stamps))), other_list n list stamps less)

earlier_list : (n list : ℕ) (stamps : List ℕ) → list < n → sum_by (is_list n) (numbers (list_keys (list, stamps))) ≡ 0
earlier_list n list [] less = refl
earlier_list n list (stamp ∷ stamps) less =
    let none : is_list n list ≡ 0 = grind (arith, nat_tests) in
    omega (arith, none, sum_by-cons (is_list n) list (numbers (list_keys (list, stamps))), earlier_list n list stamps less)

abbrev all_numbers : ℕ → List (List ℕ) → List ℕ
all_numbers k lists = numbers (flat_map list_keys (enumerate_from k lists))

parted : (n k : ℕ) (list : List ℕ) (lists : List (List ℕ)) → sum_by (is_list n) (all_numbers k (list ∷ lists)) ≡ sum_by (is_list n) (numbers (list_keys (k, list))) + sum_by (is_list n) (all_numbers (k + 1) lists)
parted n k list lists =
    ap (λ (xs : List ℕ). sum_by (is_list n) xs) (map-append (λ key. key.list) (list_keys (k, list)) (flat_map list_keys (enumerate_from (k + 1) lists)))
    ∙ sum_by-append (is_list n) (numbers (list_keys (k, list))) (all_numbers (k + 1) lists)

no_earlier : (n k : ℕ) (lists : List (List ℕ)) → n < k → sum_by (is_list n) (all_numbers k lists) ≡ 0
no_earlier n k [] less = refl
no_earlier n k (list ∷ lists) less = omega (arith, parted n k list lists, other_list n k list less, no_earlier n (k + 1) lists (omega (arith, less)))

counted : (j n k : ℕ) (lists : List (List ℕ)) → n ≡ k + j → sum_by (is_list n) (all_numbers k lists) ≡ length (get_or lists j [])
counted j n k [] is = refl
counted zero n k (list ∷ lists) is =
    let same : n ≡ k = omega (arith, is) in
    let here : sum_by (is_list n) (numbers (list_keys (k, list))) ≡ length list = subst (λ m. sum_by (is_list n) (numbers (list_keys (m, list))) ≡ length list) same (same_list n list) in
    omega (arith, parted n k list lists, here, no_earlier n (k + 1) lists (omega (arith, is)))
counted (suc j) n k (list ∷ lists) is =
    omega (arith, parted n k list lists, earlier_list n k list (omega (arith, is)), counted j n (k + 1) lists (omega (arith, is)))

pub merge_order-counts : (lists : List (List ℕ)) (n : ℕ) → count_by (λ list. list == n) (merge_order lists) ≡ length (get_or lists n [])
merge_order-counts lists n =
    sum_by-IsPermutation (is_list n) (numbers (keys_of lists)) (merge_order lists) (IsPermutation-map (λ key. key.list) (keys_of lists) (merged lists) (in_order_by-permutation stamp_before (keys_of lists)))
    ∙ counted n n 0 lists (omega arith)

-- where no list is left there are none
pub keys_from-none : (n : ℕ) (lists : List Stamps) → length lists ≤ n → keys_from n lists ≡ []
keys_from-none n lists none = ap (λ (rest : List Stamps). flat_map list_keys (enumerate_from n (map (λ list. list.items) rest))) (drop_all n lists none)
