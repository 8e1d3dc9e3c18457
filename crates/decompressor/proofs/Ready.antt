-- Records that are printed in the order in which a merger takes them.
use Rattle.std.proofs.Common.{◌≡◌, ◌≢◌, ℕ, zero, suc, ◌+◌, Bool, true, false, Option, Some, None, List, [], ◌∷◌, get_or, refl, ap, sym, subst, ◌∙◌, arith}
use Rattle.std.specs.Prelude.{slice_get}
use Rattle.std.specs.Option.{option_to_list}
use Rattle.std.specs.Ordering.{is_lt, nat_cmp, ordering_then}
use Rattle.std.specs.declared.cmp.Ordering.{Ordering}
use Rattle.std.specs.declared.cmp.Ordering.TheVariants.{Less, Equal, Greater}
use Rattle.std.specs.List.{AllByRecursion, flat_map, enumerate_from}
use Rattle.std.specs.List.Sorted.{IsSortedBy}
use Rattle.std.proofs.lemmas.Map.Lookups.{exact_unsigned}
use Rattle.std.proofs.lemmas.List.Elements.{All-from_recursion, recursion_from_All}
use Rattle.std.proofs.lemmas.List.Sorted.{All-permutation, IsPermutation-sym}
use Rattle.log_dictionary.specs.Calls.{LogCall}
use Rattle.stamp_merge.specs.declared.merge.MergeKey.{MergeKey}
use Rattle.stamp_merge.specs.declared.merger.ListState.{ListState}
use Rattle.stamp_merge.specs.Merging.{list_keys, keys_of, key_cmp, stamp_before, merged, merge_order}
use Rattle.stamp_merge.specs.Mergers.{list_at, heads_of}
use Rattle.stamp_merge.proofs.lemmas.MergeKeys.{key_at, key_total, key_exact, merged-rises}
use Rattle.stamp_merge.proofs.lemmas.Mergers.{head_at, heads_are, IsHead, first_key}
use Rattle.stamp_merge.proofs.lemmas.Ordering.{in_order_by-permutation}
use Rattle.stamp_merge.proofs.lemmas.Sorted.{none_less}
use Rattle.direct_printf.specs.Lines.{call_before}
use Rattle.direct_printf.proofs.lemmas.Sorting.{call_order}
use Rattle.decompressor.proofs.Rising.{all_first, all_second}

-- ---- the least head

-- a list's head among the keys of all lists
key_there : (P : MergeKey → Type 0) (k j t : ℕ) (lists : List (List ℕ)) → AllByRecursion P (flat_map list_keys (enumerate_from k lists)) → get_or lists j [] ≡ t ∷ [] → P (key_at t (k + j))
key_there P k j t [] all is = cc
key_there P k zero t (list ∷ lists) all is =
    let own = all_first P (list_keys (k, list)) (flat_map list_keys (enumerate_from (k + 1) lists)) all in
    subst (λ (n : ℕ). P (key_at t n)) (omega arith) (subst (λ (l : List ℕ). AllByRecursion P (list_keys (k, l))) is own).0
key_there P k (suc j) t (list ∷ lists) all is =
    subst (λ (n : ℕ). P (key_at t n)) (omega arith)
    (key_there P (k + 1) j t lists (all_second P (list_keys (k, list)) (flat_map list_keys (enumerate_from (k + 1) lists)) all) is)

only_head : (head : Option ℕ) (stamp : ℕ) → option_to_list head ≡ stamp ∷ [] → head ≡ Some stamp
only_head None stamp is = cc
only_head (Some s) stamp is = cc

-- the head of this list comes after none
pub record IsLeast (lists : List ListState) (writer : ℕ) : Type 0 where
  pub stamp : ℕ
  pub head : (list_at lists writer).head ≡ Some stamp
  pub least : (v t : ℕ) → (list_at lists v).head ≡ Some t → stamp_before (key_at t v) (key_at stamp writer) ≡ false

pub least_head : (lists : List ListState) (writer : ℕ) → slice_get (merge_order (heads_of lists)) 0 ≡ Some writer → IsLeast lists writer
least_head lists writer first =
    let f = first_key (merged (heads_of lists)) writer first in
    let here : IsHead (heads_of lists) f.key = (subst (AllByRecursion (IsHead (heads_of lists))) f.keys_are (heads_are lists)).0 in
    let later : AllByRecursion (λ key. stamp_before key f.key ≡ false) (merged (heads_of lists)) =
    subst (AllByRecursion (λ key. stamp_before key f.key ≡ false)) (sym f.keys_are) (none_less key_cmp key_total key_exact f.key f.rest (subst (IsSortedBy stamp_before) f.keys_are (merged-rises (heads_of lists)))) in
    let Q = λ (key : MergeKey). stamp_before key f.key ≡ false in
    let keys = keys_of (heads_of lists) in
    let each : AllByRecursion Q keys =
    recursion_from_All Q keys (All-permutation Q (merged (heads_of lists)) keys (IsPermutation-sym keys (merged (heads_of lists)) (in_order_by-permutation stamp_before keys)) (All-from_recursion Q (merged (heads_of lists)) later)) in
    subst (IsLeast lists) f.list_is (record {
      stamp = f.key.stamp;
      head = only_head (list_at lists f.key.list).head f.key.stamp (sym (head_at lists f.key.list) ∙ here.alone);
      least = λ v t is.
          subst (λ (n : ℕ). stamp_before (key_at t n) f.key ≡ false) (omega arith)
          (key_there Q 0 v t (heads_of lists) each (head_at lists v ∙ ap option_to_list is));
    })

-- ---- the order of calls is that of the heads

apart_later : (a b c : Ordering) → is_lt (ordering_then a b) ≡ false → b ≢ Equal → is_lt (ordering_then a (ordering_then b c)) ≡ false
apart_later Less b c none apart = none
apart_later Equal Less c none apart = none
apart_later Equal Equal c none apart = absurd (apart refl)
apart_later Equal Greater c none apart = refl
apart_later Greater b c none apart = refl

pub not_itself : (call : LogCall) → call_before call call ≡ false
not_itself call = at (call_before call call) refl
  where
    at : (b : Bool) → call_before call call ≡ b → b ≡ false
    at true is = sym is ∙ call_order.one_way call call is
    at false is = refl

-- a call of another writer whose stamp doesn't come before a call's doesn't come before it
pub later_call : (call other : LogCall) (s t v w : ℕ) → call.stamp ≡ s → other.stamp ≡ t → call.writer ≡ w → other.writer ≡ v → v ≢ w → stamp_before (key_at t v) (key_at s w) ≡ false → call_before other call ≡ false
later_call call other s t v w stamp_is other_is its_writer other_writer apart none =
    let writers : nat_cmp other.writer call.writer ≢ Equal = λ e. apart (sym other_writer ∙ exact_unsigned other.writer call.writer e ∙ its_writer) in
    let here : is_lt (ordering_then (nat_cmp other.stamp call.stamp) (nat_cmp other.writer call.writer)) ≡ false =
    (λ i. is_lt (ordering_then (nat_cmp (other_is i) (stamp_is i)) (nat_cmp (other_writer i) (its_writer i)))) ∙ none in
    apart_later (nat_cmp other.stamp call.stamp) (nat_cmp other.writer call.writer) (nat_cmp other.ordinal call.ordinal) here writers
