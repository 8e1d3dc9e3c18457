use Rattle.std.proofs.Common.{ℕ, ◌<◌}
use Rattle.nl_io.specs.Tables.{IsOpen}
use Rattle.nl_io.proofs.open_ids.unused_id.Given as goal

abbrev pub invariant-loop-id : goal.invariant-loop-id
invariant-loop-id g l = (id : ℕ) → id < l.id → IsOpen l.table l.other id
