-- What runs of each version may have.
use Rattle.std.specs.Prelude.{◌≡◌, ℕ, Bool, false, ◌||◌, nat_eq, List, length, All, if◌then◌else◌}
use Rattle.log_dictionary.specs.declared.clock.Clock.{Clock}
use Rattle.log_dictionary.specs.Clocks.{AreClocks, FitsClock}
use Rattle.session_options.specs.declared.version.TheConstants.{MAX_WRITERS}

-- runs of this version are recorded
abbrev pub is_known : ℕ → Bool
is_known version = nat_eq version 1 || nat_eq version 2

-- runs of this version may have clocks behind the first one
abbrev pub has_clocks : ℕ → Bool
has_clocks version = nat_eq version 2

abbrev pub most_writers : ℕ → ℕ
most_writers version = if nat_eq version 1 then 64 else MAX_WRITERS

-- A run of this version may have these clocks: they are those of a run, their numbers are below 2^64, and there is one
-- alone where the version has no others.
pub record MayHaveClocks (version : ℕ) (clocks : List Clock) : Type 0 where
  pub are : AreClocks clocks
  pub fit : All FitsClock clocks
  pub alone : has_clocks version ≡ false → length clocks ≡ 1
