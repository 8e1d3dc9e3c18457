use Rattle.std.proofs.Common.{◌≡◌, ◌++◌, map, take}
use Rattle.stamp_merge.specs.Merging.{keys_of}
use Rattle.stamp_merge.proofs.lemmas.MergeKeys.{keys_from}
use Rattle.stamp_merge.proofs.merge.merge_order.Given as goal

-- the keys so far and those of the lists that are left are all
abbrev pub invariant-loop-list : goal.invariant-loop-list
invariant-loop-list l = l.keys.items ++ keys_from l.list l.lists ≡ keys_of (map (λ list. list.items) l.lists)

-- the numbers so far are those of the keys so far
abbrev pub invariant-loop-key : goal.invariant-loop-key
invariant-loop-key l = l.order.items ≡ map (λ key. key.list) (take l.key-index l.key-items)
