-- Mergers: lists whose stamps come one at a time, each with the head that waits to be taken.
use Rattle.std.specs.Prelude.{◌≡◌, ℕ, ◌≤◌, Bool, true, false, not, ◌&&◌, is_none, Some, None, List, [], ◌∷◌, ◌++◌, length, map, take, replicate, slice_get, slice_set, slice_index_or, All}
use Rattle.std.specs.Option.{option_to_list}
use Rattle.stamp_merge.specs.declared.merge.MergeKey.{MergeKey}
use Rattle.stamp_merge.specs.declared.merger.ListState.{ListState}
use Rattle.stamp_merge.specs.Merging.{merged, merge_order}

-- ---- the lists

abbrev pub fresh_list : ListState
fresh_list = record { head = None; closed = false }

-- there is none at a place past the last list, which is as if it were closed
abbrev pub no_list : ListState
no_list = record { head = None; closed = true }

abbrev pub list_at : List ListState → ℕ → ListState
list_at lists number = slice_index_or lists number no_list

-- a list wants a head where it has none and isn't closed
abbrev pub wants : ListState → Bool
wants list = is_none list.head && not list.closed

abbrev pub NoneWants : List ListState → Type 0
NoneWants lists = All (λ list. wants list ≡ false) lists

-- the list is closed, and all that it had was taken
abbrev pub IsSpent : ListState → Type 0
IsSpent list = (list.closed ≡ true) × (list.head ≡ None)

-- the heads: of each list the stamp that waits, if there is one
abbrev pub heads_of : List ListState → List (List ℕ)
heads_of lists = map (λ list. option_to_list list.head) lists

-- ---- what a call makes of them

abbrev pub with_head : List ListState → ℕ → ℕ → List ListState
with_head lists number stamp = slice_set lists number (record (list_at lists number) { head = Some stamp })

abbrev pub without_head : List ListState → ℕ → List ListState
without_head lists number = slice_set lists number (record (list_at lists number) { head = None })

abbrev pub with_close : List ListState → ℕ → List ListState
with_close lists number = slice_set lists number (record (list_at lists number) { closed = true })

-- ---- the calls that were made

-- the stamps that were pushed to each list, and those that were taken, each with its list, in order
pub record Merging : Type 0 where
  pub pushed : List (List ℕ)
  pub taken : List MergeKey

abbrev pub pushed_to : Merging → ℕ → List ℕ
pushed_to past number = slice_index_or past.pushed number []

-- no stamp is below the one before it, and the first isn't below this number
abbrev pub RisesFrom : ℕ → List ℕ → Type 0
RisesFrom least [] = Unit {0}
RisesFrom least (stamp ∷ stamps) = (least ≤ stamp) × RisesFrom stamp stamps

-- the last stamp, or this number where there is none
abbrev pub last_or : ℕ → List ℕ → ℕ
last_or least [] = least
last_or least (stamp ∷ stamps) = last_or stamp stamps

-- Calls that a merger takes, made in any order, have come to these lists. No stamp was below the last one that was pushed
-- to its list.
pub data Merges : List ListState → Merging → Type 0 where
  made : (count : ℕ) → Merges (replicate count fresh_list) (record { pushed = replicate count []; taken = [] })
  pushed : (lists : List ListState) (past : Merging) (number stamp : ℕ) → Merges lists past
      → wants (list_at lists number) ≡ true
      → last_or 0 (pushed_to past number) ≤ stamp
      → Merges (with_head lists number stamp) (record {
        pushed = slice_set past.pushed number (pushed_to past number ++ stamp ∷ []);
        taken = past.taken;
      })
  closed : (lists : List ListState) (past : Merging) (number : ℕ) → Merges lists past
      → Merges (with_close lists number) past
  took : (lists : List ListState) (past : Merging) (number : ℕ) → Merges lists past
      → NoneWants lists
      → slice_get (merge_order (heads_of lists)) 0 ≡ Some number
      → Merges (without_head lists number) (record {
        pushed = past.pushed;
        taken = past.taken ++ take 1 (merged (heads_of lists));
      })

-- Lists that may come of those so far: each begins with what was pushed to it, one that is closed has nothing more, and
-- none falls.
pub record MergingGoesOn (lists : List ListState) (past : Merging) (later : List (List ℕ)) : Type 0 where
  pub more : ℕ → List ℕ
  pub count : length later ≡ length past.pushed
  pub begins : (number : ℕ) → slice_index_or later number [] ≡ pushed_to past number ++ more number
  pub ended : (number : ℕ) → (list_at lists number).closed ≡ true → more number ≡ []
  pub rises : (number : ℕ) → RisesFrom 0 (slice_index_or later number [])
