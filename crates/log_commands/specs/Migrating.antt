-- What the command `migrate` does.
use Rattle.std.specs.Prelude.{◌≡◌, ℕ, ◌≤◌, List, [], ◌++◌, length, codes, Some, None, Result, Ok, Err}
use Rattle.std.specs.Fmt.{decimal}
use Rattle.nl_io.specs.Desk.{Desk}
use Rattle.checkpoint_io.specs.declared.heads.TheConstants.{MAX_LOG}
use Rattle.log_migration.specs.declared.fault.MigrateFault.{MigrateFault}
use Rattle.log_migration.specs.declared.fault.MigrateFault.TheVariants as faults
use Rattle.log_migration.specs.Migrating.{IsMigrated, HaveMigration}
use Rattle.command_base.specs.Endings.{ToldCause, Ending, Done, ReadFault, Refused, Damaged, NoMemory}
use Rattle.command_base.specs.HeldFiles.{HoldsSuch}
use Rattle.command_base.specs.Tasks.{Product, nothing, IsFrontMade, WhileReading, Task}
use Rattle.command_base.specs.Readings.{Form, never, ReadsFile, file_task}
use Rattle.log_commands.specs.Logs.{log_cause}

-- the line on a new log of so many blocks
abbrev pub migrated_text : ℕ → List ℕ
migrated_text count = codes "migrated " ++ decimal count ++ codes "\n"

-- what is made where these bytes are the new log, of so many blocks
abbrev pub made_log : List ℕ → ℕ → Product
made_log migrated count = record { made = Some migrated; text = migrated_text count }

-- ---- the answer

-- the causes for which a log is refused
abbrev pub not_one : ToldCause
not_one = record { number = 1; name = codes "NotOne" }

abbrev pub too_large : ToldCause
too_large = record { number = 2; name = codes "TooLarge" }

-- the answer as an end
abbrev pub migration_ending : List ℕ → Result ℕ MigrateFault → Ending
migration_ending log (Ok count) = Done
migration_ending log (Err faults.ReadFault) = ReadFault log
migration_ending log (Err (faults.Damaged offset cause)) = Damaged log offset (log_cause cause)
migration_ending log (Err faults.NotOne) = Refused log None not_one
migration_ending log (Err faults.TooLarge) = Refused log None too_large
migration_ending log (Err faults.NoMemory) = NoMemory

-- what is made by the answer, where these bytes are the new log
abbrev pub migration_product : List ℕ → Result ℕ MigrateFault → Product
migration_product migrated (Ok count) = made_log migrated count
migration_product migrated (Err fault) = nothing

-- what a log gives: the log of version 2 and the line on it, or why there is none
abbrev pub GivesMigrated : List ℕ → Form
GivesMigrated log old product ending =
    (answer : Result ℕ MigrateFault) × (migrated : List ℕ) × (ending ≡ migration_ending log answer)
    × (product ≡ migration_product migrated answer) × HoldsSuch old log (HaveMigration [] migrated answer)

-- what is read of the log
abbrev pub ReadsLog : List ℕ → Desk → Desk → Product → Ending → Type 0
ReadsLog log = ReadsFile log (GivesMigrated log) never

-- the bytes are a log of version 1, and no more than are read; nor are those of the log of version 2
pub record IsMigratable (bytes : List ℕ) : Type 0 where
  pub migrated : List ℕ
  pub count : ℕ
  pub is : IsMigrated bytes migrated count
  pub within : length bytes ≤ MAX_LOG
  pub fits : length migrated ≤ MAX_LOG

-- `migrate`: the log of version 2 is made, and the line on it printed
abbrev pub migrate_task : List ℕ → List ℕ → Task
migrate_task log output =
    file_task log WhileReading (GivesMigrated log) never IsMigratable (Some output)
    (λ desk bytes. (product : Product) × GivesMigrated log desk product Done × IsFrontMade product.made bytes)
