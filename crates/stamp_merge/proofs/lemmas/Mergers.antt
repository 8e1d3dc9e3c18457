-- What was taken by a merger is the front of the merged stamps, whatever comes.
use Rattle.std.proofs.Common.{◌≡◌, ℕ, zero, suc, ◌+◌, ◌<◌, ◌≤◌, Bool, true, false, not, ◌&&◌, Option, Some, None, List, [], ◌∷◌, ◌++◌, length, get_or, set, map, take, replicate, refl, ap, sym, subst, ◌∙◌, inl, inr, arith, append_assoc}
use Rattle.std.specs.Prelude.{slice_get, slice_set, is_none, position, All}
use Rattle.std.specs.Option.{option_to_list}
use Rattle.std.specs.List.{AllByRecursion}
use Rattle.std.specs.List.Sorted.{IsSortedBy}
use Rattle.std.proofs.lemmas.Bool.{cases_eq}
use Rattle.std.proofs.lemmas.List.{map-set, set-get_or, get_or-set_same, get_or-set_other, length-set, length-map, length-replicate}
use Rattle.std.proofs.lemmas.List.Elements.{All-set, All-replicate}
use Rattle.std.proofs.lemmas.List.Quantifiers.{position-Some}
use Rattle.stamp_merge.specs.declared.merge.MergeKey.{MergeKey}
use Rattle.stamp_merge.specs.declared.merger.ListState.{ListState}
use Rattle.stamp_merge.specs.Ordering.{insert_by, in_order_by}
use Rattle.stamp_merge.specs.Merging.{keys_of, key_cmp, stamp_before, merged, merge_order}
use Rattle.stamp_merge.specs.Mergers.{fresh_list, no_list, list_at, wants, NoneWants, heads_of, with_head, without_head, with_close, Merging, pushed_to, RisesFrom, last_or, Merges, made, pushed, closed, took}
use Rattle.stamp_merge.proofs.lemmas.Comparing.{not_less, none_less as both_none_less}
use Rattle.stamp_merge.proofs.lemmas.Sorted.{none_less, insert_by-behind}
use Rattle.stamp_merge.proofs.lemmas.MergeKeys.{key_at, key_total, key_exact, merged-rises}
use Rattle.stamp_merge.proofs.ListChanges.{key_order, keys_after, merged-push, merged-take, all-merged, merged-all}

-- ---- lists that a merger keeps

pub at-map : {X Y : Type 0} (f : X → Y) (xs : List X) (n : ℕ) (d : X) → get_or (map f xs) n (f d) ≡ f (get_or xs n d)
at-map f [] n d = refl
at-map f (x ∷ xs) zero d = refl
at-map f (x ∷ xs) (suc n) d = at-map f xs n d

-- a list that wants a head is one of the lists
pub wanting_is_there : (lists : List ListState) (n : ℕ) → wants (list_at lists n) ≡ true → n < length lists
wanting_is_there [] n want = absurd cc
wanting_is_there (list ∷ lists) zero want = omega arith
wanting_is_there (list ∷ lists) (suc n) want = omega (arith, wanting_is_there lists n want)

-- so is one that isn't closed
open_is_there : (lists : List ListState) (n : ℕ) → (list_at lists n).closed ≡ false → n < length lists
open_is_there [] n is_open = absurd cc
open_is_there (list ∷ lists) zero is_open = omega arith
open_is_there (list ∷ lists) (suc n) is_open = omega (arith, open_is_there lists n is_open)

-- the first list that wants a head does
pub first_wants_head : (lists : List ListState) (n : ℕ) → position wants lists ≡ Some n → wants (list_at lists n) ≡ true
first_wants_head lists n is = (position-Some wants lists n no_list is).1

pub wanting_is : (head : Option ℕ) (close : Bool) → (is_none head && not close) ≡ true → (head ≡ None) × (close ≡ false)
wanting_is None true want = absurd cc
wanting_is None false want = (refl, refl)
wanting_is (Some stamp) close want = absurd cc

pub waiting_is : (head : Option ℕ) (close : Bool) → (is_none head && not close) ≡ false → close ≡ false → (stamp : ℕ) × (head ≡ Some stamp)
waiting_is None true none is_open = absurd cc
waiting_is None false none is_open = absurd cc
waiting_is (Some stamp) close none is_open = (stamp, refl)

pub head_at : (lists : List ListState) (n : ℕ) → get_or (heads_of lists) n [] ≡ option_to_list (list_at lists n).head
head_at lists n = at-map (λ list. option_to_list list.head) lists n no_list

-- ---- the heads

no_keys : (k n : ℕ) → keys_after k (replicate n []) ≡ []
no_keys k zero = refl
no_keys k (suc n) = no_keys (k + 1) n

no_heads : (k n : ℕ) → keys_after k (heads_of (replicate n fresh_list)) ≡ []
no_heads k zero = refl
no_heads k (suc n) = no_heads (k + 1) n

-- without stamps nothing is merged
pub merged-none : (lists : List (List ℕ)) → keys_of lists ≡ [] → merged lists ≡ []
unfolding in_order_by
merged-none lists none = ap (in_order_by stamp_before) none

pub no_fresh_heads : (n : ℕ) → merged (heads_of (replicate n fresh_list)) ≡ []
no_fresh_heads n = merged-none (heads_of (replicate n fresh_list)) (no_heads 0 n)

-- a key of a head is of a list that has this head
pub record IsHead (lists : List (List ℕ)) (key : MergeKey) : Type 0 where
  pub there : key.list < length lists
  pub alone : get_or lists key.list [] ≡ key.stamp ∷ []

alone_in : (own : List ℕ) (head : Option ℕ) (P : ℕ → Type 0) → own ≡ option_to_list head → ((stamp : ℕ) → own ≡ stamp ∷ [] → P stamp) → AllByRecursion P own
alone_in own None P is each = subst (AllByRecursion P) (sym is) tt
alone_in own (Some stamp) P is each = subst (AllByRecursion P) (sym is) (each stamp is, tt)

pub heads_are : (lists : List ListState) → AllByRecursion (IsHead (heads_of lists)) (merged (heads_of lists))
heads_are lists =
    all-merged (IsHead (heads_of lists)) (heads_of lists)
    (λ n within. alone_in (get_or (heads_of lists) n []) (list_at lists n).head (λ stamp. IsHead (heads_of lists) (key_at stamp n)) (head_at lists n)
    (λ stamp is. record { there = within; alone = is }))

-- the list of the first head has it
pub first_is_head : (lists : List ListState) (key : MergeKey) (rest : List MergeKey) → merged (heads_of lists) ≡ key ∷ rest
    → (key.list < length lists) × ((list_at lists key.list).head ≡ Some key.stamp)
first_is_head lists key rest is =
    let here : IsHead (heads_of lists) key = (subst (AllByRecursion (IsHead (heads_of lists))) is (heads_are lists)).0 in (
      omega (arith, here.there, length-map lists (λ (list : ListState). option_to_list list.head)),
      only (list_at lists key.list).head (sym (head_at lists key.list) ∙ here.alone),
    )
  where
    only : (head : Option ℕ) → option_to_list head ≡ key.stamp ∷ [] → head ≡ Some key.stamp
    only None one = absurd cc
    only (Some stamp) one = cc

-- what holds of all heads holds of each list's
pub heads_all : (P : MergeKey → Type 0) (lists : List ListState) → AllByRecursion P (merged (heads_of lists)) → (n : ℕ)
    → AllByRecursion (λ stamp. P (key_at stamp n)) (option_to_list (list_at lists n).head)
heads_all P lists all n = subst (AllByRecursion (λ stamp. P (key_at stamp n))) (head_at lists n) (merged-all P (heads_of lists) all n)

-- no head stands before the first
pub first_is_least : (lists : List ListState) (key : MergeKey) (rest : List MergeKey) → merged (heads_of lists) ≡ key ∷ rest
    → AllByRecursion (λ other. stamp_before other key ≡ false) (merged (heads_of lists))
first_is_least lists key rest is =
    subst (AllByRecursion (λ other. stamp_before other key ≡ false)) (sym is)
    (none_less key_cmp key_total key_exact key rest (subst (IsSortedBy stamp_before) is (merged-rises (heads_of lists))))

-- the first key, whose list this is
pub record FirstKey (keys : List MergeKey) (number : ℕ) : Type 0 where
  pub key : MergeKey
  pub rest : List MergeKey
  pub keys_are : keys ≡ key ∷ rest
  pub list_is : key.list ≡ number

pub first_key : (keys : List MergeKey) (number : ℕ) → slice_get (map (λ key. key.list) keys) 0 ≡ Some number → FirstKey keys number
first_key [] number is = absurd cc
first_key (key ∷ rest) number is = record { key = key; rest = rest; keys_are = refl; list_is = cc }

-- what a call makes of the heads
pub heads-with_head : (lists : List ListState) (n stamp : ℕ) → wants (list_at lists n) ≡ true → merged (heads_of (with_head lists n stamp)) ≡ insert_by stamp_before (key_at stamp n) (merged (heads_of lists))
heads-with_head lists n stamp want =
    let heads = heads_of lists in
    let none : get_or heads n [] ≡ [] = head_at lists n ∙ ap option_to_list (wanting_is (list_at lists n).head (list_at lists n).closed want).0 in
    let within : n < length heads = omega (arith, wanting_is_there lists n want, length-map lists (λ (list : ListState). option_to_list list.head)) in
    ap merged (map-set (λ (list : ListState). option_to_list list.head) lists n (record (list_at lists n) { head = Some stamp }))
    ∙ subst (λ (own : List ℕ). merged (set heads n (own ++ stamp ∷ [])) ≡ insert_by stamp_before (key_at stamp n) (merged heads)) none (merged-push heads n stamp within)

pub heads-without_head : (lists : List ListState) (key : MergeKey) (rest : List MergeKey) → merged (heads_of lists) ≡ key ∷ rest → merged (heads_of (without_head lists key.list)) ≡ rest
heads-without_head lists key rest is =
    let here : IsHead (heads_of lists) key = (subst (AllByRecursion (IsHead (heads_of lists))) is (heads_are lists)).0 in
    ap merged (map-set (λ (list : ListState). option_to_list list.head) lists key.list (record (list_at lists key.list) { head = None }))
    ∙ merged-take (heads_of lists) key rest is here.there here.alone

pub heads-with_close : (lists : List ListState) (n : ℕ) → heads_of (with_close lists n) ≡ heads_of lists
heads-with_close lists n =
    map-set (λ (list : ListState). option_to_list list.head) lists n (record (list_at lists n) { closed = true })
    ∙ ap (set (heads_of lists) n) (sym (head_at lists n)) ∙ set-get_or (heads_of lists) n []

-- ---- which lists are closed

abbrev pub closed_of : List ListState → List Bool
closed_of lists = map (λ list. list.closed) lists

pub closed_at : (lists : List ListState) (n : ℕ) → get_or (closed_of lists) n true ≡ (list_at lists n).closed
closed_at lists n = at-map (λ list. list.closed) lists n no_list

-- another head closes nothing
pub closed-head : (lists : List ListState) (n : ℕ) (head : Option ℕ) → closed_of (set lists n (record (list_at lists n) { head = head })) ≡ closed_of lists
closed-head lists n head =
    map-set (λ (list : ListState). list.closed) lists n (record (list_at lists n) { head = head })
    ∙ ap (set (closed_of lists) n) (sym (closed_at lists n)) ∙ set-get_or (closed_of lists) n true

pub was_open : (closes : List Bool) (n m : ℕ) → get_or (set closes n true) m true ≡ false → get_or closes m true ≡ false
was_open [] n m is_open = is_open
was_open (close ∷ closes) zero zero is_open = absurd cc
was_open (close ∷ closes) zero (suc m) is_open = is_open
was_open (close ∷ closes) (suc n) zero is_open = is_open
was_open (close ∷ closes) (suc n) (suc m) is_open = was_open closes n m is_open

-- ---- stamps that rise

last_or-push : (least : ℕ) (stamps : List ℕ) (stamp : ℕ) → last_or least (stamps ++ stamp ∷ []) ≡ stamp
last_or-push least [] stamp = refl
last_or-push least (first ∷ stamps) stamp = last_or-push first stamps stamp

rises-push : (least : ℕ) (stamps : List ℕ) (stamp : ℕ) → RisesFrom least stamps → last_or least stamps ≤ stamp → RisesFrom least (stamps ++ stamp ∷ [])
rises-push least [] stamp rises above = (above, tt)
rises-push least (first ∷ stamps) stamp rises above = (rises.0, rises-push first stamps stamp rises.1 above)

least_below : (least : ℕ) (stamps : List ℕ) → RisesFrom least stamps → least ≤ last_or least stamps
least_below least [] rises = omega arith
least_below least (first ∷ stamps) rises = omega (arith, rises.0, least_below first stamps rises.1)

all_below : (least : ℕ) (stamps : List ℕ) → RisesFrom least stamps → AllByRecursion (λ stamp. stamp ≤ last_or least stamps) stamps
all_below least [] rises = tt
all_below least (first ∷ stamps) rises = (least_below first stamps rises.1, all_below first stamps rises.1)

-- ---- what is so after each call

-- A stamp that may still come to a list that isn't closed stands before none that was taken.
abbrev pub IsSettled : List Bool → Merging → Type 0
IsSettled closes past = (n stamp : ℕ) → get_or closes n true ≡ false → last_or 0 (pushed_to past n) ≤ stamp
    → AllByRecursion (λ key. stamp_before (key_at stamp n) key ≡ false) past.taken

pub record IsMerging (lists : List ListState) (past : Merging) : Type 0 where
  pub count : length past.pushed ≡ length lists
  pub rises : All (RisesFrom 0) past.pushed
  pub order : merged past.pushed ≡ past.taken ++ merged (heads_of lists)
  pub settled : IsSettled (closed_of lists) past

at_first : (n : ℕ) → IsMerging (replicate n fresh_list) (record { pushed = replicate n []; taken = [] })
at_first n =
    record {
      count = length-replicate n [] ∙ sym (length-replicate n fresh_list);
      rises = All-replicate (RisesFrom 0) n [] tt;
      order = merged-none (replicate n []) (no_keys 0 n) ∙ sym (no_fresh_heads n);
      settled = λ m stamp is_open above. tt;
    }

module _ (lists : List ListState) (past : Merging) (is : IsMerging lists past) where
  pub taken_rises : IsSortedBy stamp_before (past.taken ++ merged (heads_of lists))
  taken_rises = subst (IsSortedBy stamp_before) is.order (merged-rises past.pushed)

  -- ---- a stamp is pushed

  module _ (number stamp : ℕ) (want : wants (list_at lists number) ≡ true) (above : last_or 0 (pushed_to past number) ≤ stamp) where
    abbrev more : List ℕ
    more = pushed_to past number ++ stamp ∷ []

    abbrev later : Merging
    later = record { pushed = slice_set past.pushed number more; taken = past.taken }

    within : number < length past.pushed
    within = omega (arith, wanting_is_there lists number want, is.count)

    -- what isn't below the last stamp now wasn't before
    above_before : (n s : ℕ) → last_or 0 (pushed_to later n) ≤ s → last_or 0 (pushed_to past n) ≤ s
    above_before n s least =
        elim (cases_eq n number) [
          | inl same ↦
              let now : pushed_to later number ≡ more = get_or-set_same past.pushed number more [] within in
              let last : last_or 0 (pushed_to later number) ≡ stamp = ap (last_or 0) now ∙ last_or-push 0 (pushed_to past number) stamp in
              let here : last_or 0 (pushed_to later number) ≤ s = subst (λ m. last_or 0 (pushed_to later m) ≤ s) same least in
              subst (λ m. last_or 0 (pushed_to past m) ≤ s) (sym same) (omega (arith, here, last, above))
          | inr apart ↦ subst (λ (own : List ℕ). last_or 0 own ≤ s) (get_or-set_other past.pushed number n more [] apart) least
        ]

    after_push : IsMerging (with_head lists number stamp) later
    after_push =
        let key = key_at stamp number in
        let is_open : get_or (closed_of lists) number true ≡ false = closed_at lists number ∙ (wanting_is (list_at lists number).head (list_at lists number).closed want).1 in
        record {
          count = length-set past.pushed number more ∙ is.count ∙ sym (length-set lists number (record (list_at lists number) { head = Some stamp }));
          rises = All-set (RisesFrom 0) past.pushed number more (rises-push 0 (pushed_to past number) stamp (is.rises number [] within) above) is.rises;
          order =
              merged-push past.pushed number stamp within
              ∙ ap (insert_by stamp_before key) is.order
              ∙ insert_by-behind key_cmp key_total key_exact key past.taken (merged (heads_of lists)) taken_rises (is.settled number stamp is_open above)
              ∙ ap (λ (heads : List MergeKey). past.taken ++ heads) (sym (heads-with_head lists number stamp want));
          settled = λ n s still above_now. is.settled n s (subst (λ (closes : List Bool). get_or closes n true ≡ false) (closed-head lists number (Some stamp)) still) (above_before n s above_now);
        }

  -- ---- a list is closed

  after_close : (number : ℕ) → IsMerging (with_close lists number) past
  after_close number =
      record {
        count = is.count ∙ sym (length-set lists number (record (list_at lists number) { closed = true }));
        rises = is.rises;
        order = is.order ∙ ap (λ (heads : List (List ℕ)). past.taken ++ merged heads) (sym (heads-with_close lists number));
        settled = λ n s still above.
            is.settled n s (was_open (closed_of lists) number n (subst (λ (closes : List Bool). get_or closes n true ≡ false) (map-set (λ (list : ListState). list.closed) lists number (record (list_at lists number) { closed = true })) still)) above;
      }

  -- ---- a head is taken

  -- a head isn't above the last stamp that was pushed to its list
  heads_below : AllByRecursion (λ key. key.stamp ≤ last_or 0 (pushed_to past key.list)) (merged (heads_of lists))
  heads_below =
      let all = all-merged (λ key. key.stamp ≤ last_or 0 (pushed_to past key.list)) past.pushed
      (λ n there. all_below 0 (pushed_to past n) (is.rises n [] there)) in
      behind past.taken (merged (heads_of lists)) (subst (AllByRecursion (λ key. key.stamp ≤ last_or 0 (pushed_to past key.list))) is.order all)
    where
      behind : (front back : List MergeKey) → AllByRecursion (λ key. key.stamp ≤ last_or 0 (pushed_to past key.list)) (front ++ back) → AllByRecursion (λ key. key.stamp ≤ last_or 0 (pushed_to past key.list)) back
      behind [] back all = all
      behind (key ∷ front) back all = behind front back all.1

  all_push : (P : MergeKey → Type 0) (keys : List MergeKey) (key : MergeKey) → AllByRecursion P keys → P key → AllByRecursion P (keys ++ key ∷ [])
  all_push P [] key all here = (here, tt)
  all_push P (first ∷ keys) key all here = (all.0, all_push P keys key all.1 here)

  -- nothing that may still come stands before the first head, where each list that isn't closed has one
  first_settled : NoneWants lists → (key : MergeKey) (rest : List MergeKey) → merged (heads_of lists) ≡ key ∷ rest
      → (n stamp : ℕ) → get_or (closed_of lists) n true ≡ false → last_or 0 (pushed_to past n) ≤ stamp → stamp_before (key_at stamp n) key ≡ false
  first_settled none key rest first n stamp still above =
      let is_open : (list_at lists n).closed ≡ false = sym (closed_at lists n) ∙ still in
      let there : n < length lists = open_is_there lists n is_open in
      let head = waiting_is (list_at lists n).head (list_at lists n).closed (none n no_list there) is_open in
      let own : option_to_list (list_at lists n).head ≡ head.0 ∷ [] = ap option_to_list head.1 in
      let head_least : stamp_before (key_at head.0 n) key ≡ false =
      (subst (AllByRecursion (λ s. stamp_before (key_at s n) key ≡ false)) own (heads_all (λ y. stamp_before y key ≡ false) lists (first_is_least lists key rest first) n)).0 in
      let head_below : head.0 ≤ last_or 0 (pushed_to past n) =
      (subst (AllByRecursion (λ s. s ≤ last_or 0 (pushed_to past n))) own (heads_all (λ y. y.stamp ≤ last_or 0 (pushed_to past y.list)) lists heads_below n)).0 in
      let below : head.0 ≤ stamp = omega (arith, above, head_below) in
      let own_order : stamp_before (key_at stamp n) (key_at head.0 n) ≡ false = both_none_less _ _ (not_less head.0 stamp below) (not_less n n (omega arith)) in
      key_order.chain (key_at stamp n) (key_at head.0 n) key own_order head_least

  after_take : NoneWants lists → (key : MergeKey) (rest : List MergeKey) → merged (heads_of lists) ≡ key ∷ rest
      → IsMerging (without_head lists key.list) (record { pushed = past.pushed; taken = past.taken ++ key ∷ [] })
  after_take none key rest first =
      record {
        count = is.count ∙ sym (length-set lists key.list (record (list_at lists key.list) { head = None }));
        rises = is.rises;
        order =
            is.order ∙ ap (λ (heads : List MergeKey). past.taken ++ heads) first ∙ sym (append_assoc past.taken (key ∷ []) rest)
            ∙ ap (λ (heads : List MergeKey). (past.taken ++ key ∷ []) ++ heads) (sym (heads-without_head lists key rest first));
        settled = λ n s still above.
            let was : get_or (closed_of lists) n true ≡ false = subst (λ (closes : List Bool). get_or closes n true ≡ false) (closed-head lists key.list None) still in
            all_push (λ y. stamp_before (key_at s n) y ≡ false) past.taken key (is.settled n s was above) (first_settled none key rest first n s was above);
      }

  after_first : (number : ℕ) → NoneWants lists → slice_get (merge_order (heads_of lists)) 0 ≡ Some number
      → IsMerging (without_head lists number) (record { pushed = past.pushed; taken = past.taken ++ take 1 (merged (heads_of lists)) })
  after_first number none first =
      let key = first_key (merged (heads_of lists)) number first in
      subst (λ n. IsMerging (without_head lists n) (record { pushed = past.pushed; taken = past.taken ++ take 1 (merged (heads_of lists)) })) key.list_is
      (subst (λ (keys : List MergeKey). IsMerging (without_head lists key.key.list) (record { pushed = past.pushed; taken = past.taken ++ take 1 keys })) (sym key.keys_are) (after_take none key.key key.rest key.keys_are))

pub is_merging : (lists : List ListState) (past : Merging) → Merges lists past → IsMerging lists past
is_merging _ _ (made count) = at_first count
is_merging _ _ (pushed lists past number stamp before want above) = after_push lists past (is_merging lists past before) number stamp want above
is_merging _ _ (closed lists past number before) = after_close lists past (is_merging lists past before) number
is_merging _ _ (took lists past number before none first) = after_first lists past (is_merging lists past before) number none first
