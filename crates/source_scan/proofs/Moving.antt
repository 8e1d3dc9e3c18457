-- What is in force, moved past changes one by one.
use Rattle.std.proofs.Common.{◌≡◌, ℕ, ◌<◌, ◌≤◌, Bool, true, false, nat_le, List, ◌∷◌, length, get_or, sym, ap, ◌∙◌, if◌then◌else◌}
use Rattle.std.proofs.lemmas.Bool.{le-leb, lt-leb}
use Rattle.source_scan.specs.declared.position.PlacedChange.{PlacedChange}
use Rattle.source_scan.specs.Positions.{InForce, changed, changed_to}
use Rattle.source_scan.proofs.Fronts.{behind, front_and_behind, nothing}

moved-step : (place : ℕ) (before : InForce) (placed : PlacedChange) (changes : List PlacedChange) (b : Bool) → nat_le placed.from place ≡ b → changed_to place before (placed ∷ changes) ≡ (if b then changed_to place (changed before placed) changes else before)
unfolding changed_to
moved-step place before placed changes b is = ap (λ (one : Bool). if one then changed_to place (changed before placed) changes else before) is

parted : (rest : List PlacedChange) (placed : PlacedChange) → 1 ≤ length rest → placed ≡ get_or rest 0 placed → rest ≡ placed ∷ behind rest
parted rest placed some is = front_and_behind rest placed some ∙ ap (λ (first : PlacedChange). first ∷ behind rest) (sym is)

-- the next change stands behind the place
pub moved-stops : (place : ℕ) (before : InForce) (rest : List PlacedChange) (placed : PlacedChange) → 1 ≤ length rest → placed ≡ get_or rest 0 placed → place < placed.from → changed_to place before rest ≡ before
moved-stops place before rest placed some is far = ap (changed_to place before) (parted rest placed some is) ∙ moved-step place before placed (behind rest) false (lt-leb placed.from place far)

-- the next change stands before it
pub moved-on : (place : ℕ) (before : InForce) (rest : List PlacedChange) (placed : PlacedChange) → 1 ≤ length rest → placed ≡ get_or rest 0 placed → placed.from ≤ place → changed_to place before rest ≡ changed_to place (changed before placed) (behind rest)
moved-on place before rest placed some is near = ap (changed_to place before) (parted rest placed some is) ∙ moved-step place before placed (behind rest) true (le-leb placed.from place near)

-- there are no other changes
pub moved-all : (place : ℕ) (before : InForce) (rest : List PlacedChange) → length rest < 1 → changed_to place before rest ≡ before
unfolding changed_to
moved-all place before rest none = ap (changed_to place before) (nothing rest none)
