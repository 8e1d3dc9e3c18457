-- Objects in memory, whose failing calls are listed beforehand by their numbers, from 0.
use Rattle.std.specs.Prelude.{◌≡◌, ℕ, ◌+◌, Contains}
use Rattle.nl_io.specs.declared.script.Script.{Script}
use Rattle.nl_io.specs.declared.script.Faults.{Faults}
use Rattle.nl_io.specs.Count.{counted}

-- the next call is one of the listed ones
abbrev pub IsListed : Script → Type 0
IsListed script = Contains script.failing.items script.calls

-- another call came
abbrev pub called : Script → Script
called script = record script { calls = counted script.calls }

-- how many calls failed
abbrev pub all_faults : Faults → ℕ
all_faults faults = faults.listed + faults.starved

-- The call wasn't listed, and no memory was wanting.
pub record CallSucceeds (script : Script) (old new : Faults) : Type 0 where
  pub unlisted : ¬ IsListed script
  pub same : new ≡ old

-- The call was listed.
pub record FailsListed (script : Script) (old new : Faults) : Type 0 where
  pub is_listed : IsListed script
  pub counted_once : new ≡ record old { listed = counted old.listed }

-- The call wasn't listed, and memory was wanting.
pub record Starves (script : Script) (old new : Faults) : Type 0 where
  pub unlisted : ¬ IsListed script
  pub counted_once : new ≡ record old { starved = counted old.starved }
