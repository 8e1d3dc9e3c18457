use Rattle.log_migration.proofs.lemmas.MigrationLaws.{one_migration}
use Rattle.log_migration.proofs.laws.migrations_are_one.Goals as goal

pub returns : goal.returns
returns c = one_migration
