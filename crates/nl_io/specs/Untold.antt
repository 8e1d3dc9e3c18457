-- Open files of which nothing but their ids is told.
use Rattle.std.specs.Prelude.{ℕ, None}
use Rattle.std.specs.BTreeMap.{BTreeMap}
use Rattle.nl_io.specs.Desk.{ById}
use Rattle.nl_io.specs.Tables.{by_id}

-- each id, and nothing with it
abbrev pub ids_in : {V : Type 0} → BTreeMap ℕ V → ById
ids_in table = by_id (λ _. None) table.entries
