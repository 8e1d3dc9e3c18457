-- How what workers leave is kept.
use Rattle.std.specs.Prelude.{◌≡◌, ◌≤◌, length}
use Rattle.std.specs.Vec.{vec_capacity}
use Rattle.session_options.specs.declared.options.Policy.TheVariants as policies
use Rattle.trace_session.specs.declared.finishing.Finished.TheInside.{Inside}
use Rattle.trace_session.specs.Drops.{call_count}
use Rattle.trace_session.specs.Finishing.{FinishedView}

abbrev pub finished_of : {S : Type 0} → Inside S → FinishedView S
finished_of f = record { run = f.trace.now; options = f.options; drops = f.drops.items; writers = f.writers.items }

-- there is room for all writers, and where calls may be dropped for all calls
pub record HasFinishRoom {S : Type 0} (f : Inside S) : Type 0 where
  pub writers : length f.trace.now.writers ≤ vec_capacity f.writers
  pub drops : f.options.policy ≡ policies.Shed → call_count f.trace.now.writers ≤ vec_capacity f.drops
