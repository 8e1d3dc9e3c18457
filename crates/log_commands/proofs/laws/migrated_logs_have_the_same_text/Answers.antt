use Rattle.std.proofs.Common.{sym, subst}
use Rattle.decompressor.specs.Decompression.{whole_text, Decompressed}
use Rattle.decompressor.proofs.lemmas.DecompressionLaws.{one_text, whole_is_text}
use Rattle.log_migration.specs.Migrating.{version_2}
use Rattle.log_migration.proofs.lemmas.MigrationLaws.{right_log}
use Rattle.log_commands.proofs.laws.migrated_logs_have_the_same_text.Goals as goal

pub returns : goal.returns
returns c bytes migrated text count is decompressed =
    let whole = one_text bytes text (whole_text is.header is.blocks) decompressed (whole_is_text is.header is.blocks bytes is.file is.valid) in
    subst (Decompressed migrated) (sym whole) (whole_is_text (version_2 is.header) is.blocks migrated is.spelled (right_log is.header is.blocks is.valid))
