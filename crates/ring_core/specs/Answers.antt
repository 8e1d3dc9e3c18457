-- What the answers of the ends say.
use Rattle.std.specs.Prelude.{◌≡◌, ℕ, ◌-◌, ◌<◌, ◌≤◌, Bool, true, false, ⊤}
use Rattle.ring_core.specs.declared.answers.Full.{Full}
use Rattle.ring_core.specs.declared.answers.Taken.{Taken}
use Rattle.ring_core.specs.declared.answers.Taken.TheVariants as answers
use Rattle.ring_core.specs.Positions.{Need}

-- So many words wanted more room than there is, at this position of a ring of so many words. The room is what is not taken
-- up by what lies between `seen` and the position.
pub record IsFull (at frame words seen : ℕ) (full : Full) : Type 0 where
  pub need : full.need ≡ Need at frame words
  pub wanting : full.room < full.need
  pub room : full.room ≤ words
  pub taken : words - full.room ≤ at
  pub seen_is : seen ≡ at - (words - full.room)

-- So many words have room at this position of a ring of so many words, where all below `seen` was taken.
abbrev pub HasRoom : ℕ → ℕ → ℕ → ℕ → Type 0
HasRoom at frame words seen = Need at frame words ≤ words - (at - seen)

-- where a frame was taken, this holds of its length
abbrev pub IfFrame : Taken → (ℕ → Type 0) → Type 0
IfFrame (answers.Frame n) P = P n
IfFrame answers.Nothing P = ⊤
IfFrame answers.Ended P = ⊤

-- where none was taken, this holds
abbrev pub IfNoFrame : Taken → Type 0 → Type 0
IfNoFrame (answers.Frame n) P = ⊤
IfNoFrame answers.Nothing P = P
IfNoFrame answers.Ended P = P

-- whether all has ended
abbrev pub is_ended : Taken → Bool
is_ended (answers.Frame n) = false
is_ended answers.Nothing = false
is_ended answers.Ended = true
