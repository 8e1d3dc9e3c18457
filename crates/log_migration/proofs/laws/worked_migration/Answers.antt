use Rattle.log_migration.proofs.Worked.{migrated}
use Rattle.log_migration.proofs.laws.worked_migration.Goals as goal

pub returns-clause-migrated : goal.returns-clause-migrated
returns-clause-migrated c = migrated
