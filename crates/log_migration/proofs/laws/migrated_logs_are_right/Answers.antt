use Rattle.log_migration.proofs.lemmas.MigrationLaws.{right_log}
use Rattle.log_migration.proofs.laws.migrated_logs_are_right.Goals as goal

pub returns-clause-valid : goal.returns-clause-valid
returns-clause-valid c = right_log
