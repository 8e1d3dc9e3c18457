-- What is made of a log while it is read.
use Rattle.std.specs.Prelude.{◌≡◌, ℕ, ◌<◌, ◌≤◌, true, false, List, [], ◌++◌, length, Option, Some, None, Result, OnOk}
use Rattle.std.specs.List.{flat_map}
use Rattle.log_dictionary.specs.declared.message.Message.{Message}
use Rattle.log_dictionary.specs.BinaryEntries.{entry_bytes}
use Rattle.checkpoint_io.specs.declared.fault.BlockFault.{BlockFault}
use Rattle.checkpoint_io.specs.declared.fault.BlockFault.TheVariants as reading
use Rattle.checkpoint_io.specs.declared.heads.TheConstants.{MAX_LOG}
use Rattle.checkpoint_io.specs.Blocks.{FileOf, fragment_head_bytes}
use Rattle.log_scan.specs.Parts.{LogPart}
use Rattle.log_migration.specs.declared.fault.MigrateFault.{MigrateFault}
use Rattle.log_migration.specs.declared.fault.MigrateFault.TheVariants.{ReadFault, Damaged, NoMemory}
use Rattle.log_migration.specs.declared.migration.Migration.{Migration}
use Rattle.log_migration.specs.declared.new_log.NewLog.{NewLog}
use Rattle.log_migration.specs.Migrating.{version_2, IsMigrated}

-- the fragment of messages whose ids count from the first
abbrev pub fragment_bytes : ℕ → List Message → List ℕ
fragment_bytes first messages = fragment_head_bytes first (length messages) ++ flat_map entry_bytes messages

-- These are the parts of the log that were put so far. They are kept where they are no more than are read of a log.
pub record HoldsLog (log : NewLog) (bytes : List ℕ) : Type 0 where
  pub kept : log.large ≡ false → (log.bytes.items ≡ bytes) × (length bytes ≤ MAX_LOG)
  pub large : log.large ≡ true → MAX_LOG < length bytes

-- these bytes were put behind the others
abbrev pub PutsPart : {T E : Type 0} → Result T E → NewLog → NewLog → List ℕ → Type 0
PutsPart result old new part = (before : List ℕ) → HoldsLog old before → OnOk result (HoldsLog new (before ++ part))

-- The log is that of version 2 with the part's numbers and blocks, where the part is of version 1.
abbrev pub MigratesPart : LogPart → NewLog → Type 0
MigratesPart part log =
    part.header.version ≡ 1 → (bytes : List ℕ) × FileOf (version_2 part.header) part.blocks bytes × HoldsLog log bytes

-- the migration is that of the part
pub record IsMigration (part : LogPart) (migration : Migration) : Type 0 where
  pub many : migration.blocks ≡ length part.blocks
  pub made : MigratesPart part migration.log

-- the migration is that of the part, or of nothing
abbrev pub HasMigration : Migration → Option LogPart → Type 0
HasMigration migration None = HoldsLog migration.log [] × (migration.blocks ≡ 0)
HasMigration migration (Some part) = IsMigration part migration

-- the migration is that of the whole file, of no more bytes than are read
pub record IsWholeMigration (bytes : List ℕ) (migration : Migration) : Type 0 where
  pub migrated : List ℕ
  pub is : IsMigrated bytes migrated migration.blocks
  pub within : length bytes ≤ MAX_LOG
  pub holds : HoldsLog migration.log migrated

-- why there is no log where a file begins with no header
abbrev pub fault_of : BlockFault → MigrateFault
fault_of (reading.Damaged cause) = Damaged 0 cause
fault_of reading.ReadFault = ReadFault
fault_of reading.NoMemory = NoMemory
