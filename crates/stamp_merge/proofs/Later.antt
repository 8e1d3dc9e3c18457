-- What more comes to the lists of a merger, and what was taken in the end.
use Rattle.std.proofs.Common.{◌≡◌, ℕ, zero, suc, ◌+◌, ◌<◌, ◌≤◌, ◌≢◌, Bool, true, false, Option, Some, None, List, [], ◌∷◌, ◌++◌, length, get_or, set, map, refl, ap, sym, subst, ◌∙◌, cond, arith}
use Rattle.std.specs.Prelude.{◌==◌, sum_by, count_by, All}
use Rattle.std.specs.Option.{option_to_list}
use Rattle.std.specs.List.{AllByRecursion}
use Rattle.std.proofs.lemmas.List.{append-nil, map-append, map-set, length-append}
use Rattle.std.proofs.lemmas.List.Sums.{sum_by-append}
use Rattle.stamp_merge.specs.declared.merge.MergeKey.{MergeKey}
use Rattle.stamp_merge.specs.declared.merger.ListState.{ListState}
use Rattle.stamp_merge.specs.Ordering.{in_order_by}
use Rattle.stamp_merge.specs.Merging.{list_keys, keys_of, key_cmp, stamp_before, merged, merge_order}
use Rattle.stamp_merge.specs.Mergers.{list_at, IsSpent, heads_of, with_head, without_head, with_close, Merging, pushed_to, RisesFrom, last_or, Merges, made, pushed, closed, took, MergingGoesOn}
use Rattle.stamp_merge.proofs.lemmas.Ordering.{in_order_by-rises}
use Rattle.stamp_merge.proofs.lemmas.Sorted.{in_order_by-behind}
use Rattle.stamp_merge.proofs.lemmas.MergeKeys.{key_at, key_total, key_exact, merged-rises, keys_same, merge_order-counts}
use Rattle.stamp_merge.proofs.ListChanges.{key_order, keys_after, sum-merged, sum-in_order, all-keys}
use Rattle.stamp_merge.proofs.lemmas.Mergers.{head_at, closed_of, closed_at, closed-head, was_open, waiting_is, is_merging, taken_rises}
use Rattle.stamp_merge.proofs.Winners.{never_wants, no_spent_heads}

-- ---- what more comes

-- what comes to each of the lists, which are counted from this number on
abbrev rests : (ℕ → List ℕ) → ℕ → List (List ℕ) → List (List ℕ)
rests more k [] = []
rests more k (list ∷ lists) = more k ∷ rests more (k + 1) lists

length-rests : (more : ℕ → List ℕ) (k : ℕ) (lists : List (List ℕ)) → length (rests more k lists) ≡ length lists
length-rests more k [] = refl
length-rests more k (list ∷ lists) = ap suc (length-rests more (k + 1) lists)

rest_at : (more : ℕ → List ℕ) (k j : ℕ) (lists : List (List ℕ)) → j < length lists → get_or (rests more k lists) j [] ≡ more (k + j)
rest_at more k j [] within = absurd (omega (arith, within))
rest_at more k zero (list ∷ lists) within = ap more (omega arith)
rest_at more k (suc j) (list ∷ lists) within = rest_at more (k + 1) j lists (omega (arith, within)) ∙ ap more (omega arith)

-- the stamps of longer lists are those of the lists and those that came
sum-later : (f : MergeKey → ℕ) (more : ℕ → List ℕ) (k : ℕ) (before later : List (List ℕ)) → length later ≡ length before
    → ((j : ℕ) → get_or later j [] ≡ get_or before j [] ++ more (k + j))
    → sum_by f (keys_after k later) ≡ sum_by f (keys_after k (rests more k later)) + sum_by f (keys_after k before)
sum-later f more k [] [] same begins = refl
sum-later f more k [] (list ∷ later) same begins = absurd (omega (arith, same))
sum-later f more k (own ∷ before) [] same begins = absurd (omega (arith, same))
sum-later f more k (own ∷ before) (list ∷ later) same begins =
    let here : list ≡ own ++ more k = begins 0 ∙ ap (λ n. own ++ more n) (omega arith) in
    let first : sum_by f (list_keys (k, list)) ≡ sum_by f (list_keys (k, own)) + sum_by f (list_keys (k, more k)) =
    ap (λ (l : List ℕ). sum_by f (list_keys (k, l))) here ∙ ap (sum_by f) (map-append (λ s. key_at s k) own (more k)) ∙ sum_by-append f (list_keys (k, own)) (list_keys (k, more k)) in
    let others = sum-later f more (k + 1) before later (omega (arith, same)) (λ j. begins (suc j) ∙ ap (λ n. get_or before j [] ++ more n) (omega arith)) in
    omega (
      arith,
      first,
      others,
      sum_by-append f (list_keys (k, list)) (keys_after (k + 1) later),
      sum_by-append f (list_keys (k, own)) (keys_after (k + 1) before),
      sum_by-append f (list_keys (k, more k)) (keys_after (k + 1) (rests more (k + 1) later)),
    )

-- ---- stamps that rise

each_of : {X : Type 0} (P Q : X → Type 0) → ((x : X) → P x → Q x) → (xs : List X) → AllByRecursion P xs → AllByRecursion Q xs
each_of P Q to [] all = tt
each_of P Q to (x ∷ xs) all = (to x all.0, each_of P Q to xs all.1)

all_above : (least : ℕ) (stamps : List ℕ) → RisesFrom least stamps → AllByRecursion (λ stamp. least ≤ stamp) stamps
all_above least [] rises = tt
all_above least (first ∷ stamps) rises =
    (rises.0, each_of (λ s. first ≤ s) (λ s. least ≤ s) (λ s above. omega (arith, above, rises.0)) stamps (all_above first stamps rises.1))

rest_above : (least : ℕ) (front back : List ℕ) → RisesFrom least (front ++ back) → AllByRecursion (λ stamp. last_or least front ≤ stamp) back
rest_above least [] back rises = all_above least back rises
rest_above least (first ∷ front) back rises = rest_above first front back rises.1

-- ---- what was taken is settled

module _ (lists : List ListState) (past : Merging) (later : List (List ℕ)) (calls : Merges lists past) (on : MergingGoesOn lists past later) where
  abbrev comes : List (List ℕ)
  comes = rests on.more 0 later

  -- nothing that comes stands before what was taken
  abbrev StandsBehind : MergeKey → Type 0
  StandsBehind key = AllByRecursion (λ other. stamp_before key other ≡ false) past.taken

  comes_behind : (n : ℕ) (close : Bool) → (list_at lists n).closed ≡ close → AllByRecursion (λ stamp. StandsBehind (key_at stamp n)) (on.more n)
  comes_behind n true is_closed = subst (AllByRecursion (λ stamp. StandsBehind (key_at stamp n))) (sym (on.ended n is_closed)) tt
  comes_behind n false is_open =
      each_of (λ stamp. last_or 0 (pushed_to past n) ≤ stamp) (λ stamp. StandsBehind (key_at stamp n))
      (λ stamp above. (is_merging lists past calls).settled n stamp (closed_at lists n ∙ is_open) above) (on.more n)
      (rest_above 0 (pushed_to past n) (on.more n) (subst (RisesFrom 0) (on.begins n) (on.rises n)))

  all_behind : AllByRecursion StandsBehind (keys_of comes)
  all_behind =
      all-keys StandsBehind 0 comes (λ j within.
      subst (AllByRecursion (λ stamp. StandsBehind (key_at stamp (0 + j)))) (sym (rest_at on.more 0 j later (omega (arith, within, length-rests on.more 0 later))))
      (comes_behind (0 + j) (list_at lists (0 + j)).closed refl))

  pub taken_first : (rest : List MergeKey) × (merged later ≡ past.taken ++ rest)
  taken_first =
      let is = is_merging lists past calls in
      let heads = merged (heads_of lists) in
      let all = keys_of comes ++ (past.taken ++ heads) in
      let behind = in_order_by-behind key_cmp key_total key_exact (keys_of comes) past.taken heads (taken_rises lists past is) all_behind in
      let whole : merged later ≡ in_order_by stamp_before all =
      keys_same (merged later) (in_order_by stamp_before all) (merged-rises later) (in_order_by-rises stamp_before key_order all)
      (λ f. omega (
        arith,
        sum-merged f later,
        sum-in_order f all,
        sum_by-append f (keys_of comes) (past.taken ++ heads),
        ap (sum_by f) is.order,
        sum-merged f past.pushed,
        sum-later f on.more 0 past.pushed later on.count (λ j. on.begins j ∙ ap (λ n. pushed_to past j ++ on.more n) (omega arith)),
      )) in
      (behind.0, whole ∙ behind.1)

-- ---- how many were taken

-- of each list all that was pushed was taken, but for its head
pub pushed_count : (lists : List ListState) (past : Merging) (n : ℕ) → Merges lists past
    → length (pushed_to past n) ≡ count_by (λ list. list == n) (map (λ key. key.list) past.taken) + length (option_to_list (list_at lists n).head)
pushed_count lists past n calls =
    let counted = λ (list : ℕ). list == n in
    let parts : merge_order past.pushed ≡ map (λ (key : MergeKey). key.list) past.taken ++ merge_order (heads_of lists) =
    ap (map (λ (key : MergeKey). key.list)) (is_merging lists past calls).order ∙ map-append (λ (key : MergeKey). key.list) past.taken (merged (heads_of lists)) in
    omega (
      arith,
      merge_order-counts past.pushed n,
      merge_order-counts (heads_of lists) n,
      ap (count_by counted) parts,
      ap length (head_at lists n),
      sum_by-append (λ (list : ℕ). cond (list == n) 1 0) (map (λ (key : MergeKey). key.list) past.taken) (merge_order (heads_of lists)),
    )

-- ---- what stands behind all that was taken

at-set : {X : Type 0} (P : X → Type 0) (xs : List X) (n m : ℕ) (y d : X) → P y → P (get_or xs m d) → P (get_or (set xs n y) m d)
at-set P [] n m y d new old = old
at-set P (x ∷ xs) zero zero y d new old = new
at-set P (x ∷ xs) zero (suc m) y d new old = old
at-set P (x ∷ xs) (suc n) zero y d new old = old
at-set P (x ∷ xs) (suc n) (suc m) y d new old = at-set P xs n m y d new old

-- once something was taken each list that isn't closed has had a stamp
begun : (lists : List ListState) (past : Merging) → Merges lists past → (n : ℕ) → (list_at lists n).closed ≡ false → past.taken ≢ []
    → 0 < length (pushed_to past n)
begun _ _ (made count) n is_open some = absurd (some refl)
begun _ _ (pushed lists past number stamp before want above) n is_open some =
    let was : (list_at lists n).closed ≡ false = sym (closed_at lists n) ∙ ap (λ (closes : List Bool). get_or closes n true) (sym (closed-head lists number (Some stamp)))
    ∙ closed_at (with_head lists number stamp) n ∙ is_open in
    at-set (λ (own : List ℕ). 0 < length own) past.pushed number n (pushed_to past number ++ stamp ∷ []) []
    (omega (arith, length-append (pushed_to past number) (stamp ∷ []))) (begun lists past before n was some)
begun _ _ (closed lists past number before) n is_open some =
    let still : get_or (set (closed_of lists) number true) n true ≡ false =
    sym (ap (λ (closes : List Bool). get_or closes n true) (map-set (λ (list : ListState). list.closed) lists number (record (list_at lists number) { closed = true })))
    ∙ closed_at (with_close lists number) n ∙ is_open in
    begun lists past before n (sym (closed_at lists n) ∙ was_open (closed_of lists) number n still) some
begun _ _ (took lists past number before none first) n is_open some =
    let was : (list_at lists n).closed ≡ false = sym (closed_at lists n) ∙ ap (λ (closes : List Bool). get_or closes n true) (sym (closed-head lists number None))
    ∙ closed_at (without_head lists number) n ∙ is_open in
    let head = waiting_is (list_at lists n).head (list_at lists n).closed (never_wants lists none n) was in
    omega (arith, pushed_count lists past n before, ap (λ (o : Option ℕ). length (option_to_list o)) head.1)

-- so has each of these lists a stamp that doesn't stand before anything that was taken
pub open_behind : (lists : List ListState) (past : Merging) (n : ℕ) → Merges lists past → (list_at lists n).closed ≡ false → past.taken ≢ []
    → (0 < length (pushed_to past n)) × AllByRecursion (λ key. stamp_before (key_at (last_or 0 (pushed_to past n)) n) key ≡ false) past.taken
open_behind lists past n calls is_open some =
    (begun lists past calls n is_open some, (is_merging lists past calls).settled n (last_or 0 (pushed_to past n)) (closed_at lists n ∙ is_open) (omega arith))

-- ---- at the end

pub all_taken : (lists : List ListState) (past : Merging) → Merges lists past → All IsSpent lists → past.taken ≡ merged past.pushed
all_taken lists past calls spent =
    sym (append-nil past.taken) ∙ ap (λ (heads : List MergeKey). past.taken ++ heads) (sym (no_spent_heads lists spent)) ∙ sym (is_merging lists past calls).order
