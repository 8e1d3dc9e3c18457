pub mod MigrationLaws
