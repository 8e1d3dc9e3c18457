-- A log of version 1 as one of version 2, and what is answered of it.
use Rattle.std.specs.Prelude.{◌≡◌, ℕ, ◌<◌, ◌≤◌, List, [], ◌++◌, length, IfSome, Result, Ok, Err, ⊤}
use Rattle.nl_io.specs.Content.{Told}
use Rattle.checkpoint_io.specs.declared.header.Header.{Header}
use Rattle.checkpoint_io.specs.declared.heads.TheConstants.{MAX_LOG}
use Rattle.checkpoint_io.specs.Blocks.{Block, FileOf}
use Rattle.checkpoint_io.specs.Validity.{Valid}
use Rattle.checkpoint_io.specs.Fronts.{BeginsWithLog, BreaksByCutAlone}
use Rattle.checkpoint_io.specs.Places.{TookSuch}
use Rattle.checkpoint_io.specs.NextBlocks.{StopsAt}
use Rattle.log_migration.specs.declared.fault.MigrateFault.{MigrateFault}
use Rattle.log_migration.specs.declared.fault.MigrateFault.TheVariants.{ReadFault, Damaged, NotOne, TooLarge, NoMemory}

-- the same numbers in version 2
abbrev pub version_2 : Header → Header
version_2 header = record header { version = 2 }

-- The bytes are a log of version 1, and the others are the log of version 2 that has the same numbers and the same
-- blocks in the same order. There are so many blocks.
pub record IsMigrated (bytes migrated : List ℕ) (count : ℕ) : Type 0 where
  pub header : Header
  pub blocks : List Block
  pub version : header.version ≡ 1
  pub file : FileOf header blocks bytes
  pub valid : Valid header blocks
  pub spelled : FileOf (version_2 header) blocks migrated
  pub many : count ≡ length blocks

-- the bytes begin with a right header, which is of this version
abbrev pub BeginsWithVersion : ℕ → List ℕ → Type 0
BeginsWithVersion version bytes =
    (header : Header) × (count : ℕ) × BeginsWithLog bytes header [] count × (header.version ≡ version)

-- The bytes have this answer, which is none on reading or memory. The new log is put behind the old bytes.
abbrev pub HaveMigration : List ℕ → List ℕ → Result ℕ MigrateFault → List ℕ → Type 0
HaveMigration old new (Ok count) bytes =
    (migrated : List ℕ) × IsMigrated bytes migrated count × (length bytes ≤ MAX_LOG) × (length migrated ≤ MAX_LOG)
    × (new ≡ old ++ migrated)
HaveMigration old new (Err (Damaged offset cause)) bytes =
    StopsAt bytes offset cause × ¬ (BeginsWithVersion 2 bytes)
HaveMigration old new (Err NotOne) bytes = BeginsWithVersion 2 bytes
HaveMigration old new (Err TooLarge) bytes =
    (migrated : List ℕ) × (count : ℕ) × IsMigrated bytes migrated count × (length bytes ≤ MAX_LOG)
    × (MAX_LOG < length migrated)
HaveMigration old new (Err ReadFault) bytes = ⊥
HaveMigration old new (Err NoMemory) bytes = ⊥

-- What the answer says of the bytes that the source had left before, and of what it has left behind; and of the bytes
-- behind which the new log is put.
abbrev pub AnswersMigration : Told → Told → List ℕ → List ℕ → Result ℕ MigrateFault → Type 0
AnswersMigration left behind old new (Err ReadFault) =
    TookSuch (λ bytes. BreaksByCutAlone bytes × ¬ (BeginsWithVersion 2 bytes)) left behind
AnswersMigration left behind old new (Err NoMemory) = ⊤
AnswersMigration left behind old new answer = IfSome left (HaveMigration old new answer)
