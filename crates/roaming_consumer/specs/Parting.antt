-- Several logs of one run, one after another.
use Rattle.std.specs.Prelude.{◌≡◌, ℕ, Bool, true, List, []}
use Rattle.ring_core.specs.Plans.{Plan}

-- the end has answered that all has ended, and what was taken of it is as it was
pub record IsStopped {S : Type 0} (got : S → List (List ℕ)) (ended : S → Bool) (plan : S → Plan) (before after : S) : Type 0 where
  pub same_got : got after ≡ got before
  pub same_plan : plan after ≡ plan before
  pub over : ended after ≡ true

-- none of the frames counts that were taken
pub record IsAnew {S : Type 0} (got : S → List (List ℕ)) (plan : S → Plan) (before after : S) : Type 0 where
  pub none : got after ≡ []
  pub same_plan : plan after ≡ plan before
