-- How a merger keeps the heads of its lists: in a tree of matches.
use Rattle.std.specs.Prelude.{◌≡◌, ℕ, ◌+◌, ◌-◌, ◌*◌, ◌/◌, ◌<◌, ◌≤◌, ◌^◌, false, if◌then◌else◌, Option, Some, None, List, length, count_by, slice_index_or, slice_set}
use Rattle.stamp_merge.specs.declared.merge.MergeKey.{MergeKey}
use Rattle.stamp_merge.specs.declared.merger.ListState.{ListState}
use Rattle.stamp_merge.specs.declared.merger.Merger.TheInside.{Inside}
use Rattle.stamp_merge.specs.Merging.{stamp_before}
use Rattle.stamp_merge.specs.Mergers.{wants, list_at}

-- it stands for a list that has no head, behind the heads of all lists
abbrev pub no_head : MergeKey
no_head = record { stamp = 2 ^ 64 - 1; list = 2 ^ 32 - 1 }

-- the one of two keys that is taken first
unfoldable pub earlier : MergeKey → MergeKey → MergeKey
earlier a b = if stamp_before b a then b else a

-- the key at a place: the first half are the winners of matches, from place 1 on, and the second half are the lists' keys
abbrev pub key_in : List MergeKey → ℕ → MergeKey
key_in winners place = slice_index_or winners place no_head

abbrev pub own_place : List MergeKey → ℕ → ℕ
own_place winners list = length winners / 2 + list

-- each match is won by the earlier of the two keys below it
abbrev pub AllWon : List MergeKey → Type 0
AllWon winners = (place : ℕ) → 0 < place → place < length winners / 2
    → key_in winners place ≡ earlier (key_in winners (2 * place)) (key_in winners (2 * place + 1))

-- all matches are won, and of the lists' keys only this one's is another
pub record Played (winners : List MergeKey) (list : ℕ) (key : MergeKey) (now : List MergeKey) : Type 0 where
  pub won : AllWon now
  pub keys : (place : ℕ) → length winners / 2 ≤ place → key_in now place ≡ key_in (slice_set winners (own_place winners list) key) place

-- the key of a list with this number and head
abbrev pub IsKeyOf : ℕ → Option ℕ → MergeKey → Type 0
IsKeyOf list None key = key ≡ no_head
IsKeyOf list (Some stamp) key = (key ≡ record { stamp = stamp; list = list }) × (stamp < 2 ^ 64)

-- The tree has a key for each list, which is right where the list doesn't want a head. There are so many lists that want
-- one, and none of them stands in front of this place.
pub record KeepsHeads (lists : List ListState) (winners : List MergeKey) (wanting first : ℕ) : Type 0 where
  pub few : length lists < 2 ^ 32
  pub rooted : 1 < length winners
  pub enough : length lists ≤ length winners / 2
  pub won : AllWon winners
  pub keys : (n : ℕ) → n < length winners / 2 → wants (list_at lists n) ≡ false
      → IsKeyOf n (list_at lists n).head (key_in winners (own_place winners n))
  pub counted : wanting ≡ count_by wants lists
  pub before : (n : ℕ) → n < first → wants (list_at lists n) ≡ false

abbrev pub IsMerger : Inside → Type 0
IsMerger m = KeepsHeads m.lists.items m.winners.items m.wanting m.first
