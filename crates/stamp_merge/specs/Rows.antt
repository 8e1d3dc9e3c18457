-- Worked lists of stamps.
use Rattle.std.specs.Prelude.{◌≡◌, ℕ, true, Some, List, [], ◌∷◌, slice_get, position, All}
use Rattle.stamp_merge.specs.declared.merger.ListState.{ListState}
use Rattle.stamp_merge.specs.Merging.{merge_order}
use Rattle.stamp_merge.specs.Mergers.{wants, NoneWants, IsSpent, list_at, heads_of, with_head, without_head, with_close}

-- three lists that have equal stamps
abbrev pub tied_lists : List (List ℕ)
tied_lists = (5 ∷ 7 ∷ 7 ∷ []) ∷ (7 ∷ 9 ∷ []) ∷ (5 ∷ 5 ∷ 7 ∷ []) ∷ []

-- ---- a worked merger

-- a call of a merger, with what `next` answers
pub data MergeCall : Type 0 where
  Pushes : ℕ → ℕ → MergeCall
  Closes : ℕ → MergeCall
  Takes : ℕ → MergeCall
  Wants : ℕ → MergeCall
  Ends : MergeCall

-- from these lists on the calls may be made one after the other, and answer so
abbrev pub Runs : List ListState → List MergeCall → Type 0
Runs lists [] = Unit {0}
Runs lists (Pushes number stamp ∷ calls) =
    (wants (list_at lists number) ≡ true) × Runs (with_head lists number stamp) calls
Runs lists (Closes number ∷ calls) = Runs (with_close lists number) calls
Runs lists (Takes number ∷ calls) =
    NoneWants lists × (slice_get (merge_order (heads_of lists)) 0 ≡ Some number) × Runs (without_head lists number) calls
Runs lists (Wants number ∷ calls) = (position wants lists ≡ Some number) × Runs lists calls
Runs lists (Ends ∷ calls) = All IsSpent lists × Runs lists calls

-- the stamps of the three lists are pushed as they are wanted, and a list is closed where it has no more
abbrev pub asked_run : List MergeCall
asked_run =
    Wants 0 ∷ Pushes 0 5 ∷ Wants 1 ∷ Pushes 1 7 ∷ Wants 2 ∷ Pushes 2 5
    ∷ Takes 0 ∷ Wants 0 ∷ Pushes 0 7
    ∷ Takes 2 ∷ Wants 2 ∷ Pushes 2 5
    ∷ Takes 2 ∷ Wants 2 ∷ Pushes 2 7
    ∷ Takes 0 ∷ Wants 0 ∷ Pushes 0 7
    ∷ Takes 0 ∷ Wants 0 ∷ Closes 0
    ∷ Takes 1 ∷ Wants 1 ∷ Pushes 1 9
    ∷ Takes 2 ∷ Wants 2 ∷ Closes 2
    ∷ Takes 1 ∷ Wants 1 ∷ Closes 1
    ∷ Ends ∷ []

-- they are pushed without being asked for, the last list's first, and a list is closed with its last head
abbrev pub unasked_run : List MergeCall
unasked_run =
    Pushes 2 5 ∷ Wants 0 ∷ Pushes 1 7 ∷ Wants 0 ∷ Pushes 0 5
    ∷ Takes 0 ∷ Pushes 0 7
    ∷ Takes 2 ∷ Pushes 2 5
    ∷ Takes 2 ∷ Pushes 2 7 ∷ Closes 2
    ∷ Takes 0 ∷ Pushes 0 7 ∷ Closes 0 ∷ Closes 0
    ∷ Takes 0
    ∷ Takes 1 ∷ Pushes 1 9 ∷ Closes 1
    ∷ Takes 2
    ∷ Takes 1
    ∷ Ends ∷ Ends ∷ []
