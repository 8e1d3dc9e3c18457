-- The commands over logs are sound.
use Rattle.std.proofs.Common.{◌≡◌, ℕ, Bool, List, [], ◌∷◌, length, Some, None, Result, Ok, Err, refl, sym, ap, ◌∙◌, subst}
use Rattle.std.specs.Prelude.{nat_lt, if◌then◌else◌}
use Rattle.checkpoint_io.specs.declared.cause.Cause.{Cause}
use Rattle.checkpoint_io.specs.Blocks.{messages_of}
use Rattle.checkpoint_io.proofs.lemmas.BreakLaws.{whole_or_break}
use Rattle.decompressor.specs.declared.report.Report.{Report}
use Rattle.decompressor.specs.declared.fault.DecodeFault.{DecodeFault}
use Rattle.decompressor.specs.declared.fault.DecodeFault.TheVariants as reading
use Rattle.decompressor.specs.Decompressing.{IsTextOfDamaged}
use Rattle.aggregation.specs.declared.totals.Totals.{Totals}
use Rattle.aggregation.specs.declared.fault.AggregateFault.{AggregateFault}
use Rattle.aggregation.specs.declared.fault.AggregateFault.TheVariants as faults
use Rattle.aggregation.specs.Totals.{argument_totals}
use Rattle.aggregation.specs.Aggregating.{answer_for, HaveAnswer}
use Rattle.aggregation.proofs.lemmas.TotalsLaws.{one_answer}
use Rattle.log_migration.specs.declared.fault.MigrateFault.{MigrateFault}
use Rattle.log_migration.specs.Migrating.{HaveMigration}
use Rattle.log_migration.proofs.lemmas.MigrationLaws.{fitting_answer}
use Rattle.command_base.specs.Endings.{IsDone, Done}
use Rattle.command_base.proofs.lemmas.HeldLaws.{such_is, such_there}
use Rattle.command_base.specs.Tasks.{Product, IsFrontMade, WhileReading, Streaming}
use Rattle.command_base.specs.Readings.{never}
use Rattle.command_base.specs.Soundness.{IsSound}
use Rattle.command_base.proofs.lemmas.SoundTasks.{file_sound}
use Rattle.log_commands.specs.Logs.{IsLog, HasNumber}
use Rattle.log_commands.specs.Decompressing.{whole_ending, log_ending, HaveText, GivesText, BeginsText, decompress_task}
use Rattle.log_commands.specs.Aggregating.{totals_ending, GivesTotals, aggregate_task}
use Rattle.log_commands.specs.Migrating.{migration_ending, GivesMigrated, IsMigratable, migrate_task}

-- ---- `decompress`

-- a log that is whole isn't damaged
pub not_damaged : (bytes text : List ℕ) (offset : ℕ) (cause : Cause) → IsLog bytes → ¬ (IsTextOfDamaged bytes text offset cause)
not_damaged bytes text offset cause is damaged = whole_or_break is.header is.blocks bytes offset cause is.file is.valid (damaged.scanned.breaks is.within)

whole_done : (log unclosed : List ℕ) → IsDone (whole_ending log unclosed)
whole_done log [] = refl
whole_done log (writer ∷ writers) = refl

right_text : (log text bytes : List ℕ) (answer : Result Report DecodeFault) → IsLog bytes → HaveText text answer bytes → IsDone (log_ending log answer)
right_text log text bytes (Ok report) is have = whole_done log report.unclosed
right_text log text bytes (Err (reading.Damaged offset cause)) is have = absurd (not_damaged bytes text offset cause is have)
right_text log text bytes (Err reading.ReadFault) is have = absurd have
right_text log text bytes (Err reading.WriteFault) is have = absurd have
right_text log text bytes (Err reading.NoMemory) is have = absurd have

pub decompress_sound : (log : List ℕ) → IsSound (decompress_task log)
decompress_sound log = file_sound log Streaming (GivesText log) (BeginsText log) IsLog None (λ desk bytes. ⊥) (record {
  done = λ desk product ending holds (answer, told, unmade, have).
      subst IsDone (sym told) (right_text log product.text holds.bytes answer holds.formed (such_is desk log IsLog (HaveText product.text answer) holds have));
  streams = λ desk text begun. refl;
  there = λ desk bytes left. absurd left;
})

-- ---- `aggregate`

-- a whole log that has the number has no other answer than its totals
no_fault : (id nth : ℕ) (bytes : List ℕ) (fault : AggregateFault) → HasNumber id nth bytes → ¬ (HaveAnswer id nth (Err fault) bytes)
no_fault id nth bytes fault is have =
    let log = is.log in
    let totals = argument_totals log.blocks id nth in
    let one = one_answer log.header log.blocks bytes id nth log.file log.valid log.within (Err fault) have in
    let right : answer_for (messages_of log.blocks) id nth totals ≡ Ok totals =
    ap (λ (b : Bool). if b then Ok totals else (if nat_lt id (length (messages_of log.blocks)) then Err faults.NoSuchArgument else Err faults.NoSuchMessage)) is.has in
    let both : Err fault ≡ Ok totals = one ∙ right in
    cc

right_totals : (log : List ℕ) (id nth : ℕ) (bytes : List ℕ) (answer : Result Totals AggregateFault) → HasNumber id nth bytes → HaveAnswer id nth answer bytes → IsDone (totals_ending log answer)
right_totals log id nth bytes (Ok totals) is have = refl
right_totals log id nth bytes (Err fault) is have = absurd (no_fault id nth bytes fault is have)

pub aggregate_sound : (log : List ℕ) (id nth : ℕ) → IsSound (aggregate_task log id nth)
aggregate_sound log id nth = file_sound log WhileReading (GivesTotals log id nth) never (HasNumber id nth) None (λ desk bytes. ⊥) (record {
  done = λ desk product ending holds (answer, told, shown, have).
      subst IsDone (sym told) (right_totals log id nth holds.bytes answer holds.formed (such_is desk log (HasNumber id nth) (HaveAnswer id nth answer) holds have));
  streams = λ desk text begun. absurd begun;
  there = λ desk bytes left. absurd left;
})

-- ---- `migrate`

-- a log that may be migrated has no other answer than the new log
right_migration : (log made bytes : List ℕ) (answer : Result ℕ MigrateFault) → IsMigratable bytes → HaveMigration [] made answer bytes → IsDone (migration_ending log answer)
right_migration log made bytes answer is have =
    let old = is.is in
    let right = fitting_answer old.header old.blocks bytes is.migrated [] made old.version old.file old.valid is.within old.spelled is.fits answer have in
    subst (λ (a : Result ℕ MigrateFault). IsDone (migration_ending log a)) (sym right.0) refl

pub migrate_sound : (log output : List ℕ) → IsSound (migrate_task log output)
migrate_sound log output = file_sound log WhileReading (GivesMigrated log) never IsMigratable (Some output)
    (λ desk bytes. (product : Product) × GivesMigrated log desk product Done × IsFrontMade product.made bytes) (record {
      done = λ desk product ending holds (answer, made, told, is, have).
          subst IsDone (sym told) (right_migration log made holds.bytes answer holds.formed (such_is desk log IsMigratable (HaveMigration [] made answer) holds have));
      streams = λ desk text begun. absurd begun;
      there = λ desk bytes (product, (answer, made, told, is, have), front). such_there desk log (HaveMigration [] made answer) have;
    })
