-- The files that are being made, by their ids.
use Rattle.std.specs.Prelude.{ℕ, Some}
use Rattle.std.specs.String.{string_bytes}
use Rattle.std.specs.BTreeMap.{BTreeMap}
use Rattle.std.specs.declared.string.String.{String}
use Rattle.nl_io.specs.Desk.{ById}
use Rattle.nl_io.specs.Tables.{by_id}

-- each with its name
abbrev pub titles_in : {A : Type 0} → BTreeMap ℕ (String A) → ById
titles_in made = by_id (λ name. Some (string_bytes name)) made.entries
