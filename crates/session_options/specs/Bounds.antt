-- Which options a session can have.
use Rattle.std.specs.Prelude.{◌≤◌}
use Rattle.session_options.specs.declared.limits.TheConstants.{MIN_RING, MAX_RING, MAX_BATCH}
use Rattle.session_options.specs.declared.options.Options.{Options}

-- the numbers of the options lie in their bounds
abbrev pub AreInBounds : Options → Type 0
AreInBounds options =
    (MIN_RING ≤ options.ring) × (options.ring ≤ MAX_RING) × (1 ≤ options.batch) × (options.batch ≤ MAX_BATCH)
