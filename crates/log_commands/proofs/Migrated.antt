-- What `migrate` reads of a log, by the answer, and how it ends.
use Rattle.std.proofs.Common.{◌≡◌, ◌≢◌, ℕ, List, [], Result, Ok, Err, refl, inl, sym, subst}
use Rattle.std.specs.Prelude.{◌⊎◌, IfSome, IfErr, IsErrOf}
use Rattle.std.specs.Result.{IsErrAnd}
use Rattle.nl_io.specs.Count.{Rose}
use Rattle.nl_io.specs.Content.{Told}
use Rattle.nl_io.specs.Desk.{Desk, OnlyName, found_in}
use Rattle.log_migration.specs.declared.fault.MigrateFault.{MigrateFault}
use Rattle.log_migration.specs.declared.fault.MigrateFault.TheVariants as faults
use Rattle.log_migration.specs.Migrating.{HaveMigration, AnswersMigration}
use Rattle.command_base.specs.Effects.{CommandEffect}
use Rattle.command_base.proofs.lemmas.EffectLaws.{no_bytes, saved, unsaved}
use Rattle.command_base.specs.Endings.{Ending, Done, WriteFault, NoMemory, refusal_ending}
use Rattle.command_base.specs.HeldFiles.{IsHeld, HoldsFront, IsThere}
use Rattle.command_base.proofs.lemmas.HeldLaws.{WasRead, such_read, there_read, same_desk}
use Rattle.command_base.specs.Printing.{Prints}
use Rattle.command_base.specs.declared.refusal.Refusal.{Refusal}
use Rattle.command_base.specs.Readings.{never, GivesNoBytes}
use Rattle.command_base.specs.Scenes.{Scene, scene}
use Rattle.command_base.specs.Tasks.{nothing}
use Rattle.log_commands.specs.Migrating.{migrated_text, made_log, migration_ending, migration_product, GivesMigrated, ReadsLog, migrate_task}

-- the log gave no bytes
pub none_read : {T : Type 0} (log : List ℕ) (old new : Desk) (result : Result T Refusal) (refusal : Refusal) → IsErrAnd result (λ e. e ≡ refusal) → GivesNoBytes log old new (refusal_ending refusal)
    → IfErr result (λ e. ReadsLog log old new nothing (refusal_ending e))
none_read log old new (Ok x) refusal is gives = tt
none_read log old new (Err e) refusal is gives =
    subst (λ (r : Refusal). ReadsLog log old new nothing (refusal_ending r)) (sym is) (no_bytes log (GivesMigrated log) never old new (refusal_ending refusal) gives)

module _ (log : List ℕ) (old new : Desk) (content : Told) (was : WasRead log old new content) where
  -- the log was read to its end, or as far as it could be
  gives : (made : List ℕ) (answer : Result ℕ MigrateFault) → IfSome content (HaveMigration [] made answer) → new.read_faults ≡ old.read_faults
      → (new ≡ old) × IsThere old log × GivesMigrated log old (migration_product made answer) (migration_ending log answer)
  gives made answer have counted = (
    same_desk old new was.only counted,
    there_read log old new content was,
    (answer, made, refl, refl, such_read log old new content (HaveMigration [] made answer) was have),
  )

  -- what the answer says is what the command reads
  pub reads_log : (left : Told) (made : List ℕ) (answer : Result ℕ MigrateFault) → AnswersMigration content left [] made answer → (IsErrOf answer faults.ReadFault → Rose old.read_faults new.read_faults)
      → (¬ (IsErrOf answer faults.ReadFault) → new.read_faults ≡ old.read_faults)
      → ReadsLog log old new (migration_product made answer) (migration_ending log answer)
  reads_log left made (Ok count) said rose counted = gives made (Ok count) said (counted (λ e. cc))
  reads_log left made (Err faults.ReadFault) said rose counted = ((refl, was.only, rose refl), inl refl)
  reads_log left made (Err (faults.Damaged offset cause)) said rose counted = gives made (Err (faults.Damaged offset cause)) said (counted (λ e. cc))
  reads_log left made (Err faults.NotOne) said rose counted = gives made (Err faults.NotOne) said (counted (λ e. cc))
  reads_log left made (Err faults.TooLarge) said rose counted = gives made (Err faults.TooLarge) said (counted (λ e. cc))
  reads_log left made (Err faults.NoMemory) said rose counted = ((same_desk old new was.only (counted (λ e. cc)), there_read log old new content was), refl)

  -- the new log was made
  pub made_of : (left : Told) (made before : List ℕ) (count : ℕ) → before ≡ [] → AnswersMigration content left before made (Ok count) → new.read_faults ≡ old.read_faults → ReadsLog log old new (made_log made count) Done
  made_of left made before count none said counted =
      gives made (Ok count) (subst (λ (b : List ℕ). AnswersMigration content left b made (Ok count)) none said) counted

  -- there is none
  pub none_made : (left : Told) (made before : List ℕ) (fault : MigrateFault) → before ≡ [] → AnswersMigration content left before made (Err fault) → (IsErrOf {T = ℕ} (Err fault) faults.ReadFault → Rose old.read_faults new.read_faults)
      → (¬ (IsErrOf {T = ℕ} (Err fault) faults.ReadFault) → new.read_faults ≡ old.read_faults) → ReadsLog log old new nothing (migration_ending log (Err fault))
  none_made left made before fault none said rose counted =
      reads_log left made (Err fault) (subst (λ (b : List ℕ). AnswersMigration content left b made (Err fault)) none said) rose counted

module _ (log output : List ℕ) (old : Scene) (read desk : Desk) (migrated : List ℕ) (count : ℕ) (reads : ReadsLog log old.desk read (made_log migrated count) Done) where
  -- the new log was written, and the number printed
  pub log_written : (ending : Ending) (put : Told) (faults : ℕ) → IsHeld desk output migrated → OnlyName output read desk → desk.write_faults ≡ read.write_faults
      → Prints (migrated_text count) old.put put old.faults faults ending → ending ≢ NoMemory → CommandEffect (migrate_task log output) old (scene desk put faults) ending
  log_written ending put faults held only counted prints memory =
      saved (migrate_task log output) old desk (made_log migrated count) output migrated ending put faults refl refl (refl, reads.1, reads.2) held
      (subst (λ (d : Desk). OnlyName output d desk) reads.0 only) (subst (λ (d : Desk). desk.write_faults ≡ d.write_faults) reads.0 counted) prints memory

  -- it couldn't be written whole
  pub log_lost : (found_in desk output ≡ found_in read output) ⊎ HoldsFront desk output migrated → OnlyName output read desk → Rose read.write_faults desk.write_faults
      → CommandEffect (migrate_task log output) old (scene desk old.put old.faults) (WriteFault output)
  log_lost holds only failed =
      unsaved (migrate_task log output) old desk output migrated refl (λ n few. (made_log migrated count, reads.2, (n, few, refl)))
      (subst (λ (d : Desk). (found_in desk output ≡ found_in d output) ⊎ HoldsFront desk output migrated) reads.0 holds)
      (subst (λ (d : Desk). OnlyName output d desk) reads.0 only) (subst (λ (d : Desk). Rose d.write_faults desk.write_faults) reads.0 failed)
