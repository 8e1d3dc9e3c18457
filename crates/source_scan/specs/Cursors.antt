-- Cursors: what is in force, as it is known from a place of a source on.
use Rattle.std.specs.Prelude.{◌≡◌, ℕ, ◌≤◌, List}
use Rattle.source_scan.specs.declared.position.PlacedChange.{PlacedChange}
use Rattle.source_scan.specs.declared.cursor.Cursor.{Cursor}
use Rattle.source_scan.specs.Positions.{InForce, in_force_of, changed_to, at_front, line_number_at}

-- from a place on the same line and the same name are in force
pub record SameFrom (source : List ℕ) (place : ℕ) (first : InForce) (changes : List PlacedChange)
    (second : InForce) (others : List PlacedChange) : Type 0 where
  pub line : (k : ℕ) → place ≤ k
      → line_number_at source (changed_to k first changes) k ≡ line_number_at source (changed_to k second others) k
  pub name : (k : ℕ) → place ≤ k → (changed_to k first changes).name ≡ (changed_to k second others).name

-- the cursor stands at a place, says what is in force there, and goes on as the other did
pub record IsMoved (source : List ℕ) (before : Cursor) (place : ℕ) (moved : Cursor) : Type 0 where
  pub from : moved.position.from ≡ place
  pub same : SameFrom source place (in_force_of before.position) before.changes.now
      (in_force_of moved.position) moved.changes.now
  pub line : line_number_at source (changed_to place (in_force_of before.position) before.changes.now) place
      ≡ moved.position.number
  pub name : (changed_to place (in_force_of before.position) before.changes.now).name ≡ moved.position.name.now

-- the cursor goes on as the source does from its front
abbrev pub CursorFollows : List ℕ → List ℕ → List PlacedChange → Cursor → Type 0
CursorFollows file source changes cursor =
    SameFrom source cursor.position.from (at_front file) changes (in_force_of cursor.position) cursor.changes.now

-- the cursor stands at a place and says what is in force there
pub record IsHere (file source : List ℕ) (changes : List PlacedChange) (place : ℕ) (cursor : Cursor) : Type 0 where
  pub from : cursor.position.from ≡ place
  pub follows : CursorFollows file source changes cursor
  pub line : line_number_at source (changed_to place (at_front file) changes) place ≡ cursor.position.number
  pub name : (changed_to place (at_front file) changes).name ≡ cursor.position.name.now
