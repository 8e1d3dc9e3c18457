-- Lists of entries as finite maps.
use Rattle.std.specs.Prelude.{◌≢◌, ◌⊎◌, ℕ, List, [], ◌∷◌, None}
use Rattle.std.specs.Ordering.{nat_cmp}
use Rattle.std.specs.BTreeMap.{BTreeMap, get}
use Rattle.std.specs.declared.cmp.Ordering.{Ordering}
use Rattle.std.specs.FinMap as map
use Rattle.nl_io.specs.Content.{Told}
use Rattle.nl_io.specs.Desk.{ById}

-- The map of some entries, of which one function gives the keys and another the values. At a key that stands twice it
-- has the first value.
abbrev pub as_map : {K L V X : Type 0} {R : L → L → Ordering} → (K → L) → (V → X) → List (K × V) → map.FinMap R X
as_map key value [] = map.empty
as_map key value (e ∷ es) = map.insert (as_map key value es) (key e.0) (value e.1)

-- open files by their ids, of each of which a function tells a text or content
abbrev pub by_id : {V : Type 0} → (V → Told) → List (ℕ × V) → ById
by_id told es = as_map (λ id. id) told es

-- one of the two tables has the id
abbrev pub IsOpen : {V W : Type 0} → BTreeMap ℕ V → BTreeMap ℕ W → ℕ → Type 0
IsOpen table other id = (get nat_cmp table id ≢ None) ⊎ (get nat_cmp other id ≢ None)
