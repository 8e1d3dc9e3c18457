-- What the files of a command hold.
use Rattle.std.specs.Prelude.{◌≡◌, ◌≢◌, ℕ, ◌≤◌, List, length, take, Some, None, IfSome}
use Rattle.std.specs.FinMap as map
use Rattle.nl_io.specs.Desk.{Desk, Held}

-- the name holds these bytes, where that is told
abbrev pub IsHeld : Desk → List ℕ → List ℕ → Type 0
IsHeld desk name bytes = IfSome desk.held (λ held. map.get held name ≡ Some bytes)

-- the name holds a front of these bytes, from none to all of them, where that is told
abbrev pub HoldsFront : Desk → List ℕ → List ℕ → Type 0
HoldsFront desk name bytes = (n : ℕ) × (n ≤ length bytes) × IsHeld desk name (take n bytes)

-- the name is there, where that is told
abbrev pub IsThere : Desk → List ℕ → Type 0
IsThere desk name = IfSome desk.held (λ held. map.get held name ≢ None)

-- the name holds bytes of which this is so, where that is told
abbrev pub HoldsSuch : Desk → List ℕ → (List ℕ → Type 0) → Type 0
HoldsSuch desk name such = IfSome desk.held (λ held. (bytes : List ℕ) × (map.get held name ≡ Some bytes) × such bytes)

-- it is told that the name holds bytes of a form
pub record Holds (desk : Desk) (name : List ℕ) (form : List ℕ → Type 0) : Type 0 where
  pub held : Held
  pub bytes : List ℕ
  pub told : desk.held ≡ Some held
  pub there : map.get held name ≡ Some bytes
  pub formed : form bytes
