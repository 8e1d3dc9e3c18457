use Rattle.std.proofs.Common.{◌≡◌, ◌≤◌, ◌+◌, ◌++◌, length, map, sym, ◌∙◌, subst, ap, append_assoc, List}
use Rattle.std.proofs.lemmas.List.{take_all, append-nil}
use Rattle.std.specs.List.Sorted.{IsPermutation}
use Rattle.stamp_merge.specs.declared.merge.MergeKey.{MergeKey}
use Rattle.stamp_merge.specs.Merging.{keys_of, list_keys}
use Rattle.stamp_merge.proofs.lemmas.MergeKeys.{keys_from, keys_from-more, keys_from-none, keys_sorted}
use Rattle.stamp_merge.proofs.merge.merge_order.Goals as goal

pub loop-list-preserved : goal.loop-list-preserved
loop-list-preserved c =
    let lists = c.args.lists.now in
    let n = c.loop-list.list in
    let more = keys_from-more n lists c.index-lists-list.result c.loop-list-test.true in
    let added = c.in_ok-add_keys.ensures in
    let parts = append_assoc c.loop-list.keys.items (list_keys (n, c.deref.result.now)) (keys_from (n + 1) lists) in
    cc (c.loop-list.invariant)

pub returns : goal.returns
returns c =
    let lists = c.args.lists.now in
    let keys = c.loop-list.keys.items in
    let end : length lists ≤ c.loop-list.list = c.loop-list-test.false in
    let none = keys_from-none c.loop-list.list lists end in
    let all : keys ≡ keys_of (map (λ list. list.items) lists) = sym (append-nil keys) ∙ ap (λ (rest : List MergeKey). keys ++ rest) (sym none) ∙ c.loop-list.invariant in
    let sorted = keys_sorted (map (λ list. list.items) lists) c.sort.new.self.items (subst (λ (before : List MergeKey). IsPermutation before c.sort.new.self.items) all c.in_ok-sort.ensures.permutation) c.in_ok-sort.ensures.sorted in
    let whole = take_all c.loop-key.key-index c.deref-key-items.result.now c.loop-key-test.false in
    c.loop-key.invariant ∙ ap (λ (keys : List MergeKey). map (λ key. key.list) keys) (whole ∙ c.deref-key-items.ensures.value ∙ sorted)
