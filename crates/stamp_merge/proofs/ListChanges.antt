-- The merged stamps of lists of which one changes.
use Rattle.std.proofs.Common.{◌≡◌, ℕ, zero, suc, ◌+◌, ◌<◌, List, [], ◌∷◌, ◌++◌, length, get_or, set, ap, subst, ◌∙◌, arith}
use Rattle.std.specs.Prelude.{sum_by}
use Rattle.std.specs.Cmp.{IsStrictWeakOrder}
use Rattle.std.specs.List.{AllByRecursion, flat_map, enumerate_from}
use Rattle.std.specs.List.Sorted.{IsSortedBy, IsPermutation}
use Rattle.std.proofs.lemmas.List.{map-append}
use Rattle.std.proofs.lemmas.List.Elements.{All-from_recursion, recursion_from_All}
use Rattle.std.proofs.lemmas.List.MinMax.{ranks_by}
use Rattle.std.proofs.lemmas.List.Sums.{sum_by-cons, sum_by-append}
use Rattle.std.proofs.lemmas.List.Sorted.{IsPermutation-sym, All-permutation, sum_by-IsPermutation}
use Rattle.stamp_merge.specs.declared.merge.MergeKey.{MergeKey}
use Rattle.stamp_merge.specs.Ordering.{insert_by, in_order_by}
use Rattle.stamp_merge.specs.Merging.{list_keys, keys_of, stamp_before, merged}
use Rattle.stamp_merge.proofs.lemmas.Ordering.{insert_by-permutation, in_order_by-permutation, in_order_by-rises, sorted_rest}
use Rattle.stamp_merge.proofs.lemmas.MergeKeys.{key_at, key_total, merged-rises, keys_same}

pub key_order : IsStrictWeakOrder stamp_before
key_order = ranks_by key_total (λ key. key)

-- the stamps of lists that are counted from this number on
abbrev pub keys_after : ℕ → List (List ℕ) → List MergeKey
keys_after k lists = flat_map list_keys (enumerate_from k lists)

-- ---- the same stamps

module _ (f : MergeKey → ℕ) where
  pub sum-merged : (lists : List (List ℕ)) → sum_by f (merged lists) ≡ sum_by f (keys_of lists)
  sum-merged lists = sum_by-IsPermutation f (keys_of lists) (merged lists) (in_order_by-permutation stamp_before (keys_of lists))

  pub sum-in_order : (keys : List MergeKey) → sum_by f (in_order_by stamp_before keys) ≡ sum_by f keys
  sum-in_order keys = sum_by-IsPermutation f keys (in_order_by stamp_before keys) (in_order_by-permutation stamp_before keys)

  -- another list stands in place of one
  sum-set : (j k : ℕ) (lists : List (List ℕ)) (list : List ℕ) → j < length lists
      → sum_by f (keys_after k (set lists j list)) + sum_by f (list_keys (k + j, get_or lists j []))
      ≡ sum_by f (keys_after k lists) + sum_by f (list_keys (k + j, list))
  sum-set j k [] list within = absurd (omega (arith, within))
  sum-set zero k (first ∷ lists) list within =
      let here : k + 0 ≡ k = omega arith in
      let old : sum_by f (list_keys (k + 0, first)) ≡ sum_by f (list_keys (k, first)) = ap (λ n. sum_by f (list_keys (n, first))) here in
      let new : sum_by f (list_keys (k + 0, list)) ≡ sum_by f (list_keys (k, list)) = ap (λ n. sum_by f (list_keys (n, list))) here in
      omega (arith, old, new, sum_by-append f (list_keys (k, first)) (keys_after (k + 1) lists), sum_by-append f (list_keys (k, list)) (keys_after (k + 1) lists))
  sum-set (suc j) k (first ∷ lists) list within =
      let further : k + 1 + j ≡ k + suc j = omega arith in
      let others = subst (λ n. sum_by f (keys_after (k + 1) (set lists j list)) + sum_by f (list_keys (n, get_or lists j []))
      ≡ sum_by f (keys_after (k + 1) lists) + sum_by f (list_keys (n, list))) further (sum-set j (k + 1) lists list (omega (arith, within))) in
      omega (arith, others, sum_by-append f (list_keys (k, first)) (keys_after (k + 1) lists), sum_by-append f (list_keys (k, first)) (keys_after (k + 1) (set lists j list)))

-- a stamp more of a list is put in at its place
pub merged-push : (lists : List (List ℕ)) (number stamp : ℕ) → number < length lists
    → merged (set lists number (get_or lists number [] ++ stamp ∷ [])) ≡ insert_by stamp_before (key_at stamp number) (merged lists)
unfolding in_order_by
merged-push lists number stamp within =
    let key = key_at stamp number in
    let own = get_or lists number [] in
    let more = set lists number (own ++ stamp ∷ []) in
    keys_same (merged more) (insert_by stamp_before key (merged lists)) (merged-rises more) (in_order_by-rises stamp_before key_order (key ∷ keys_of lists))
    (λ f.
    let parts : sum_by f (list_keys (number, own ++ stamp ∷ [])) ≡ sum_by f (list_keys (number, own)) + sum_by f (key ∷ []) =
    ap (sum_by f) (map-append (λ s. key_at s number) own (stamp ∷ [])) ∙ sum_by-append f (list_keys (number, own)) (key ∷ []) in
    let put : sum_by f (insert_by stamp_before key (merged lists)) ≡ sum_by f (key ∷ merged lists) =
    sum_by-IsPermutation f (key ∷ merged lists) (insert_by stamp_before key (merged lists)) (insert_by-permutation stamp_before key (merged lists)) in
    let counted : sum_by f (keys_of more) + sum_by f (list_keys (number, own)) ≡ sum_by f (keys_of lists) + sum_by f (list_keys (number, own ++ stamp ∷ [])) =
    subst (λ n. sum_by f (keys_of more) + sum_by f (list_keys (n, own)) ≡ sum_by f (keys_of lists) + sum_by f (list_keys (n, own ++ stamp ∷ []))) (omega arith) (sum-set f number 0 lists (own ++ stamp ∷ []) within) in
    omega (arith, parts, put, counted, sum-merged f more, sum-merged f lists, sum_by-cons f key (merged lists), sum_by-cons f key []))

-- where the first of all is the one stamp of a list, the others are those of the lists without it
pub merged-take : (lists : List (List ℕ)) (key : MergeKey) (rest : List MergeKey) → merged lists ≡ key ∷ rest → key.list < length lists
    → get_or lists key.list [] ≡ key.stamp ∷ [] → merged (set lists key.list []) ≡ rest
merged-take lists key rest is within own =
    let less = set lists key.list [] in
    keys_same (merged less) rest (merged-rises less) (sorted_rest stamp_before key rest (subst (IsSortedBy stamp_before) is (merged-rises lists)))
    (λ f.
    let counted : sum_by f (keys_of less) + sum_by f (list_keys (key.list, key.stamp ∷ [])) ≡ sum_by f (keys_of lists) + sum_by f [] =
    subst (λ (own : List ℕ). sum_by f (keys_of less) + sum_by f (list_keys (key.list, own)) ≡ sum_by f (keys_of lists) + sum_by f []) own
    (subst (λ n. sum_by f (keys_of less) + sum_by f (list_keys (n, get_or lists key.list [])) ≡ sum_by f (keys_of lists) + sum_by f []) (omega arith) (sum-set f key.list 0 lists [] within)) in
    omega (arith, counted, sum-merged f less, sum-merged f lists, ap (sum_by f) is, sum_by-cons f key rest, sum_by-cons f key []))

-- ---- what holds of all stamps

module _ (P : MergeKey → Type 0) where
  -- it holds of the stamps of each list
  abbrev pub HoldsOfLists : ℕ → List (List ℕ) → Type 0
  HoldsOfLists k lists = (j : ℕ) → j < length lists → AllByRecursion (λ stamp. P (key_at stamp (k + j))) (get_or lists j [])

  one_list : (n : ℕ) (list : List ℕ) → AllByRecursion (λ stamp. P (key_at stamp n)) list → (keys : List MergeKey) → AllByRecursion P keys → AllByRecursion P (list_keys (n, list) ++ keys)
  one_list n [] all keys others = others
  one_list n (stamp ∷ list) all keys others = (all.0, one_list n list all.1 keys others)

  first_list : (n : ℕ) (list : List ℕ) (keys : List MergeKey) → AllByRecursion P (list_keys (n, list) ++ keys) → AllByRecursion (λ stamp. P (key_at stamp n)) list × AllByRecursion P keys
  first_list n [] keys all = (tt, all)
  first_list n (stamp ∷ list) keys all = let others = first_list n list keys all.1 in ((all.0, others.0), others.1)

  pub all-keys : (k : ℕ) (lists : List (List ℕ)) → HoldsOfLists k lists → AllByRecursion P (keys_after k lists)
  all-keys k [] all = tt
  all-keys k (list ∷ lists) all =
      let here : AllByRecursion (λ stamp. P (key_at stamp k)) list = subst (λ n. AllByRecursion (λ stamp. P (key_at stamp n)) list) (omega arith) (all 0 (omega arith)) in
      one_list k list here (keys_after (k + 1) lists)
      (all-keys (k + 1) lists (λ j within. subst (λ n. AllByRecursion (λ stamp. P (key_at stamp n)) (get_or lists j [])) (omega arith) (all (suc j) (omega (arith, within)))))

  to_lists : (k j : ℕ) (lists : List (List ℕ)) → AllByRecursion P (keys_after k lists) → AllByRecursion (λ stamp. P (key_at stamp (k + j))) (get_or lists j [])
  to_lists k j [] all = tt
  to_lists k zero (list ∷ lists) all =
      subst (λ n. AllByRecursion (λ stamp. P (key_at stamp n)) list) (omega arith) (first_list k list (keys_after (k + 1) lists) all).0
  to_lists k (suc j) (list ∷ lists) all =
      subst (λ n. AllByRecursion (λ stamp. P (key_at stamp n)) (get_or lists j [])) (omega arith) (to_lists (k + 1) j lists (first_list k list (keys_after (k + 1) lists) all).1)

  moved : (keys others : List MergeKey) → IsPermutation keys others → AllByRecursion P keys → AllByRecursion P others
  moved keys others same all = recursion_from_All P others (All-permutation P keys others same (All-from_recursion P keys all))

  -- what holds of the stamps of each list holds of all merged stamps
  pub all-merged : (lists : List (List ℕ)) → ((n : ℕ) → n < length lists → AllByRecursion (λ stamp. P (key_at stamp n)) (get_or lists n [])) → AllByRecursion P (merged lists)
  all-merged lists all =
      moved (keys_of lists) (merged lists) (in_order_by-permutation stamp_before (keys_of lists))
      (all-keys 0 lists (λ n within. subst (λ m. AllByRecursion (λ stamp. P (key_at stamp m)) (get_or lists n [])) (omega arith) (all n within)))

  pub merged-all : (lists : List (List ℕ)) → AllByRecursion P (merged lists) → (n : ℕ) → AllByRecursion (λ stamp. P (key_at stamp n)) (get_or lists n [])
  merged-all lists all n =
      subst (λ m. AllByRecursion (λ stamp. P (key_at stamp m)) (get_or lists n [])) (omega arith)
      (to_lists 0 n lists (moved (merged lists) (keys_of lists) (IsPermutation-sym (keys_of lists) (merged lists) (in_order_by-permutation stamp_before (keys_of lists))) all))
