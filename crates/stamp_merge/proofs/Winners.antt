-- What calls make of the tree in which a merger keeps heads, and what is answered.
use Rattle.std.proofs.Common.{◌≡◌, ◌↔◌, ◌≢◌, ℕ, zero, suc, ◌+◌, ◌-◌, ◌*◌, ◌/◌, ◌<◌, ◌≤◌, ◌^◌, Bool, true, false, not, ◌&&◌, if◌then◌else◌, cond, replicate, Option, Some, None, List, [], ◌∷◌, length, get_or, set, map, refl, ap, sym, subst, ◌∙◌, inl, inr, arith}
use Rattle.std.specs.Prelude.{count_by, slice_get, is_none, position, All}
use Rattle.std.specs.Option.{option_to_list}
use Rattle.std.specs.List.{AllByRecursion, position_or_len}
use Rattle.std.proofs.lemmas.Grind.{common_steps}
use Rattle.std.proofs.lemmas.Bool.{cases_lt, cases_eq}
use Rattle.std.proofs.lemmas.Bool.Decides.{nat_tests}
use Rattle.std.proofs.lemmas.List.{get_or_default, get_or_read}
use Rattle.std.proofs.lemmas.List.Folds.{sum_by-replicate}
use Rattle.std.proofs.lemmas.List.Quantifiers.{position-Some}
use Rattle.std.proofs.lemmas.List.Sums.{fails_before_first}
use Rattle.stamp_merge.specs.declared.merge.MergeKey.{MergeKey}
use Rattle.stamp_merge.specs.declared.merger.ListState.{ListState}
use Rattle.stamp_merge.specs.declared.merger.Next.{Next}
use Rattle.stamp_merge.specs.declared.merger.Next.TheVariants.{Take, Want, Done}
use Rattle.stamp_merge.specs.Merging.{key_cmp, stamp_before, merged, merge_order}
use Rattle.stamp_merge.specs.Mergers.{fresh_list, no_list, list_at, wants, NoneWants, IsSpent, heads_of, without_head}
use Rattle.stamp_merge.specs.Winners.{no_head, earlier, key_in, own_place, AllWon, IsKeyOf, KeepsHeads}
use Rattle.stamp_merge.proofs.lemmas.Sorted.{tied}
use Rattle.stamp_merge.proofs.lemmas.MergeKeys.{key_at, key_total, key_exact}
use Rattle.stamp_merge.proofs.ListChanges.{key_order, keys_after}
use Rattle.stamp_merge.proofs.lemmas.Mergers.{merged-none, heads_all, first_is_head, first_is_least}

-- ---- lists that want heads

pub none_wants : (lists : List ListState) → count_by wants lists ≡ 0 → NoneWants lists
none_wants lists none k d within = grind (arith, common_steps)

no_wanting : (lists : List ListState) → NoneWants lists → count_by wants lists ≡ 0
no_wanting [] none = refl
no_wanting (list ∷ lists) none =
    let here : wants list ≡ false = none 0 list (omega arith) in
    let others : count_by wants lists ≡ 0 = no_wanting lists (λ k d within. none (suc k) d (omega (arith, within))) in
    grind (arith, common_steps)

-- where none wants a head, the list at no place does
pub never_wants : (lists : List ListState) → NoneWants lists → (n : ℕ) → wants (list_at lists n) ≡ false
never_wants lists none n = grind (arith, common_steps, cases_lt n (length lists))

-- ---- what is at the root

not_before_earlier : (a b : MergeKey) → (stamp_before a (earlier a b) ≡ false) × (stamp_before b (earlier a b) ≡ false)
unfolding earlier
not_before_earlier a b = grind (arith, nat_tests)

of_earlier : (P : MergeKey → Type 0) (a b : MergeKey) → P a → P b → P (earlier a b)
unfolding earlier
of_earlier P a b of_a of_b = elim (stamp_before b a) as (λ c. P (if c then b else a)) [ true ↦ of_b | false ↦ of_a ]

module _ (winners : List MergeKey) (won : AllWon winners) where
  abbrev half : ℕ
  half = length winners / 2

  below : (place : ℕ) → 1 < place → place < half + half → stamp_before (key_in winners place) (key_in winners (place / 2)) ≡ false
  below place some within =
      let is = won (place / 2) (omega arith) (omega arith) in
      let neither = not_before_earlier (key_in winners (2 * (place / 2))) (key_in winners (2 * (place / 2) + 1)) in
      grind (arith, cases_eq place (2 * (place / 2)))

  -- a key that isn't before one of the tree isn't before the root
  not_before_root : (steps place : ℕ) (key : MergeKey) → place ≤ steps → 0 < place → place < half + half
      → stamp_before key (key_in winners place) ≡ false → stamp_before key (key_in winners 1) ≡ false
  not_before_root zero place key few some within not_before = absurd (omega (arith, few, some))
  not_before_root (suc steps) place key few some within not_before =
      elim (cases_lt 1 place) [
        | inl more ↦
            not_before_root steps (place / 2) key (omega (arith, few, more)) (omega (arith, more)) (omega (arith, within, more))
            (key_order.chain key (key_in winners place) (key_in winners (place / 2)) not_before (below place more within))
        | inr one ↦ subst (λ n. stamp_before key (key_in winners n) ≡ false) (omega (arith, some, one)) not_before
      ]

  -- what holds of the lists' keys holds of all
  holds_of_all : (P : MergeKey → Type 0) → ((n : ℕ) → n < half → P (key_in winners (half + n)))
      → (steps place : ℕ) → half + half ≤ place + steps → 0 < place → place < half + half → P (key_in winners place)
  holds_of_all P own zero place few some within = absurd (omega (arith, few, within))
  holds_of_all P own (suc steps) place few some within =
      elim (cases_lt place half) [
        | inl inner ↦
            subst P (sym (won place some inner))
            (of_earlier P (key_in winners (2 * place)) (key_in winners (2 * place + 1))
            (holds_of_all P own steps (2 * place) (omega (arith, few, some)) (omega (arith, some)) (omega (arith, inner)))
            (holds_of_all P own steps (2 * place + 1) (omega (arith, few, some)) (omega (arith, some)) (omega (arith, inner))))
        | inr last ↦ subst (λ n. P (key_in winners n)) (omega (arith, last)) (own (place - half) (omega (arith, last, within)))
      ]

-- ---- what is answered

-- what `next` says of these lists, and leaves
abbrev pub NextIs : List ListState → List ListState → Next → Type 0
NextIs lists after answer =
    record {
      take : (list : ℕ) → (answer ≡ Take list) ↔ (NoneWants lists × (slice_get (merge_order (heads_of lists)) 0 ≡ Some list));
      want : (list : ℕ) → (answer ≡ Want list) ↔ (position wants lists ≡ Some list);
      done : (answer ≡ Done) ↔ All IsSpent lists;
      taken : (list : ℕ) → answer ≡ Take list → after ≡ without_head lists list;
      kept : ((list : ℕ) → (answer ≡ Take list → ⊥)) → after ≡ lists;
    }

spent_want_none : (lists : List ListState) → All IsSpent lists → NoneWants lists
spent_want_none lists spent k d within = let is = spent k d within in grind (arith, common_steps)

first_wants : (lists : List ListState) (n : ℕ) → position wants lists ≡ Some n → NoneWants lists → ⊥
first_wants lists n is none = let at = position-Some wants lists n no_list is in grind (arith, common_steps, none n no_list)

-- where all are spent there are no heads
pub no_spent_heads : (lists : List ListState) → All IsSpent lists → merged (heads_of lists) ≡ []
no_spent_heads lists spent = merged-none (heads_of lists) (none 0 lists (λ k d within. (spent k d within).1))
  where
    none : (k : ℕ) (lists : List ListState) → All (λ list. list.head ≡ None) lists → keys_after k (heads_of lists) ≡ []
    none k [] all = refl
    none k (list ∷ lists) all = rw (all 0 list (omega arith)) (none (k + 1) lists (λ j d within. all (suc j) d (omega (arith, within))))

-- where none wants a head and there is none, all are spent
all_spent : (lists : List ListState) → NoneWants lists → merged (heads_of lists) ≡ [] → All IsSpent lists
all_spent lists none empty k d within =
    subst IsSpent (get_or_default lists k no_list d within)
    (spent (list_at lists k).head (list_at lists k).closed (none k no_list within)
    (heads_all (λ key. ⊥) lists (subst (AllByRecursion (λ key. ⊥)) (sym empty) tt) k))
  where
    spent : (head : Option ℕ) (close : Bool) → (is_none head && not close) ≡ false → AllByRecursion (λ stamp. ⊥) (option_to_list head) → (close ≡ true) × (head ≡ None)
    spent None true want _ = (refl, refl)
    spent None false want _ = absurd cc
    spent (Some stamp) close want none_there = absurd none_there.0

pub want_is_next : (lists : List ListState) (n : ℕ) → position wants lists ≡ Some n → NextIs lists lists (Want n)
want_is_next lists n is =
    record {
      take = λ list. ((λ e. absurd cc), (λ both. absurd (first_wants lists n is both.0)));
      want = λ list. ((λ e. cc), (λ e. cc));
      done = ((λ e. absurd cc), (λ spent. absurd (first_wants lists n is (spent_want_none lists spent))));
      taken = λ list e. absurd cc;
      kept = λ _. refl;
    }

pub take_is_next : (lists : List ListState) (key : MergeKey) (rest : List MergeKey) → NoneWants lists → merged (heads_of lists) ≡ key ∷ rest → NextIs lists (without_head lists key.list) (Take key.list)
take_is_next lists key rest none first =
    let taken : slice_get (merge_order (heads_of lists)) 0 ≡ Some key.list = ap (λ (keys : List MergeKey). slice_get (map (λ key. key.list) keys) 0) first in
    record {
      take = λ list. ((λ e. (none, taken ∙ cc)), (λ both. let same : Some key.list ≡ Some list = sym taken ∙ both.1 in cc));
      want = λ list. ((λ e. absurd cc), (λ e. absurd (first_wants lists list e none)));
      done = (
        (λ e. absurd cc),
        (λ spent.
            let nothing : key ∷ rest ≡ [] = sym first ∙ no_spent_heads lists spent in
            absurd cc),
      );
      taken = λ list e. ap (without_head lists) cc;
      kept = λ other. absurd (other key.list refl);
    }

pub done_is_next : (lists : List ListState) → NoneWants lists → merged (heads_of lists) ≡ [] → NextIs lists lists Done
done_is_next lists none empty =
    let nothing : slice_get (merge_order (heads_of lists)) 0 ≡ None = ap (λ (keys : List MergeKey). slice_get (map (λ key. key.list) keys) 0) empty in
    record {
      take = λ list. ((λ e. absurd cc), (λ both. let no : None ≡ Some list = sym nothing ∙ both.1 in absurd cc));
      want = λ list. ((λ e. absurd cc), (λ e. absurd (first_wants lists list e none)));
      done = ((λ e. all_spent lists none empty), (λ spent. refl));
      taken = λ list e. absurd cc;
      kept = λ _. refl;
    }

-- ---- a list that wants a head is found

pub first_is_there : (lists : List ListState) → 0 < count_by wants lists → position_or_len wants lists < length lists
first_is_there lists some =
    elim (cases_lt (position_or_len wants lists) (length lists)) [
      | inl there ↦ there
      | inr past ↦ absurd (omega (arith, some, no_wanting lists (λ k d within. fails_before_first wants lists k d (omega (arith, within, past)))))
    ]

-- ---- from what a merger keeps

module _ (lists now : List ListState) (winners : List MergeKey) (wanting first : ℕ) (is : lists ≡ now) (keeps : KeepsHeads lists winners wanting first) where
  pub want_follows : (place : ℕ) → 0 < wanting → place ≡ position_or_len wants lists → NextIs now lists (Want place)
  want_follows place some is_first =
      let there : place < length lists = omega (arith, is_first, first_is_there lists (omega (arith, some, keeps.counted))) in
      let found : position wants lists ≡ Some place = grind (arith, common_steps) in
      subst (λ (ls : List ListState). NextIs ls lists (Want place)) is (want_is_next lists place found)

  -- ---- this is at the root, and no list wants a head

  module _ (root : MergeKey) (at_root : root ≡ get_or winners 1 root) (all : wanting ≡ 0) where
    none : NoneWants lists
    none = none_wants lists (omega (arith, all, keeps.counted))

    is_root : key_in winners 1 ≡ root
    is_root = sym (get_or_read winners 1 root keeps.rooted at_root no_head)

    key_is : (n : ℕ) → n < length winners / 2 → IsKeyOf n (list_at lists n).head (key_in winners (own_place winners n))
    key_is n within = keeps.keys n within (never_wants lists none n)

    -- what holds of all heads holds of the root, if it holds of the key of a list without one
    holds_of_root : (P : MergeKey → Type 0) → AllByRecursion P (merged (heads_of lists)) → P no_head → P root
    holds_of_root P of_heads of_none =
        subst P is_root
        (holds_of_all winners keeps.won P (λ n within. at n (list_at lists n).head (key_in winners (own_place winners n)) (key_is n within) (heads_all P lists of_heads n))
        (length winners) 1 (omega arith) (omega arith) (omega (arith, keeps.rooted)))
      where
        at : (n : ℕ) (head : Option ℕ) (key : MergeKey) → IsKeyOf n head key → AllByRecursion (λ stamp. P (key_at stamp n)) (option_to_list head) → P key
        at n None key key_is of_head = subst P (sym key_is) of_none
        at n (Some stamp) key key_is of_head = subst P (sym key_is.0) of_head.0

    -- It is the first head, or the key of a list without one where there is none: no list's key stands before it, and it is
    -- one of them.
    root_is : (keys : List MergeKey) → merged (heads_of lists) ≡ keys → root ≡ get_or keys 0 no_head
    root_is [] heads = holds_of_root (λ key. key ≡ no_head) (subst (AllByRecursion (λ key. key ≡ no_head)) (sym heads) tt) refl
    root_is (key ∷ rest) heads =
        let head = first_is_head lists key rest heads in
        let place : own_place winners key.list < length winners / 2 + length winners / 2 = omega (arith, keeps.enough, head.0) in
        let own = subst (λ h. IsKeyOf key.list h (key_in winners (own_place winners key.list))) head.1 (key_is key.list (omega arith)) in
        tied key_cmp key_total key_exact root key
        (holds_of_root (λ other. stamp_before other key ≡ false) (first_is_least lists key rest heads)
        (grind (arith, nat_tests)))
        (subst (λ other. stamp_before key other ≡ false) is_root
        (not_before_root winners keeps.won (length winners) (own_place winners key.list) key (omega arith) (omega (arith, keeps.rooted)) place
        (subst (λ other. stamp_before key other ≡ false) (sym own.0) (grind (arith, nat_tests)))))

    -- so it says whether there is one
    none_left : (keys : List MergeKey) → merged (heads_of lists) ≡ keys → root.list ≡ 2 ^ 32 - 1 → keys ≡ []
    none_left [] heads last = refl
    none_left (key ∷ rest) heads last =
        absurd (omega (arith, last, ap (λ (k : MergeKey). k.list) (root_is (key ∷ rest) heads), keeps.few, (first_is_head lists key rest heads).0))

    some_left : (keys : List MergeKey) → merged (heads_of lists) ≡ keys → root.list ≢ 2 ^ 32 - 1 → (rest : List MergeKey) × (keys ≡ root ∷ rest)
    some_left [] heads other = absurd (other (ap (λ (k : MergeKey). k.list) (root_is [] heads)))
    some_left (key ∷ rest) heads other = (rest, ap (λ (k : MergeKey). k ∷ rest) (sym (root_is (key ∷ rest) heads)))

    pub done_follows : root.list ≡ 2 ^ 32 - 1 → NextIs now now Done
    done_follows last = subst (λ (ls : List ListState). NextIs ls ls Done) is (done_is_next lists none (none_left (merged (heads_of lists)) refl last))

    module _ (other : root.list ≢ 2 ^ 32 - 1) where
      pub root_there : root.list < length lists
      root_there = let some = some_left (merged (heads_of lists)) refl other in (first_is_head lists root some.0 some.1).0

      pub take_follows : (list : ListState) → list ≡ get_or lists root.list list → NextIs now (set lists root.list (record list { head = None })) (Take root.list)
      take_follows list read =
          let some = some_left (merged (heads_of lists)) refl other in
          subst (λ (ls : List ListState). NextIs ls (set lists root.list (record list { head = None })) (Take root.list)) is
          (subst (λ (l : ListState). NextIs lists (set lists root.list (record l { head = None })) (Take root.list)) (sym (get_or_read lists root.list list root_there read no_list))
          (take_is_next lists root some.0 none some.1))

-- ---- at first

pub fresh_keeps : (count size : ℕ) (lists : List ListState) (winners : List MergeKey) → lists ≡ replicate count fresh_list → winners ≡ replicate size no_head
    → 1 < size → count ≤ size / 2 → count < 2 ^ 32 → KeepsHeads lists winners count 0
unfolding earlier
fresh_keeps count size lists winners are keys rooted enough few =
    let counted = sum_by-replicate (λ (l : ListState). cond (wants l) 1 0) count fresh_list in
    let won : earlier no_head no_head ≡ no_head = refl in
    grind (arith, common_steps)
