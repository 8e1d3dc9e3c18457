use Rattle.std.proofs.Common.{ℕ, List, ◌++◌, take}
use Rattle.std.specs.List.{flat_map}
use Rattle.log_dictionary.specs.BinaryEntries.{entry_bytes}
use Rattle.log_migration.specs.Migrations.{HoldsLog}
use Rattle.log_migration.proofs.parts.add_entries.Given as goal

-- the entries of the messages that were seen are put
abbrev pub invariant-loop-message : goal.invariant-loop-message
invariant-loop-message l = (before : List ℕ) → HoldsLog l.fn.log before → HoldsLog l.log (before ++ flat_map entry_bytes (take l.message-index l.messages))
