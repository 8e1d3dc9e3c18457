-- Lists of stamps, merged: in which order their stamps are taken.
use Rattle.std.specs.Prelude.{ℕ, Bool, List, map}
use Rattle.std.specs.declared.cmp.Ordering.{Ordering}
use Rattle.std.specs.Ordering.{is_lt, nat_cmp, ordering_then}
use Rattle.std.specs.List.{flat_map, enumerate_from}
use Rattle.stamp_merge.specs.Ordering.{in_order_by}
use Rattle.stamp_merge.specs.declared.merge.MergeKey.{MergeKey}

-- the stamps of one list, each with the list's number
abbrev pub list_keys : ℕ × List ℕ → List MergeKey
list_keys (list, stamps) = map (λ stamp. record { stamp = stamp; list = list }) stamps

-- the stamps of all lists, each with its list's number
abbrev pub keys_of : List (List ℕ) → List MergeKey
keys_of lists = flat_map list_keys (enumerate_from 0 lists)

-- how keys compare: by stamp, then by list
abbrev pub key_cmp : MergeKey → MergeKey → Ordering
key_cmp a b = ordering_then (nat_cmp a.stamp b.stamp) (nat_cmp a.list b.list)

-- the first is taken before the second
abbrev pub stamp_before : MergeKey → MergeKey → Bool
stamp_before a b = is_lt (key_cmp a b)

-- the stamps of all lists, in the order in which they are taken
abbrev pub merged : List (List ℕ) → List MergeKey
merged lists = in_order_by stamp_before (keys_of lists)

-- the numbers of the lists from which they are taken
abbrev pub merge_order : List (List ℕ) → List ℕ
merge_order lists = map (λ key. key.list) (merged lists)
