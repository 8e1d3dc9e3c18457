use Rattle.std.proofs.Common.{arith}
use Rattle.log_migration.proofs.NextBlocks.{few_blocks}
use Rattle.log_migration.proofs.migration.MigrationBlockFold.add.Goals as goal

pub overflow_add-self : goal.overflow_add-self
overflow_add-self c =
    let (part, next, stands, is) = c.requires in
    omega (arith, few_blocks part _ c.args.block next stands, is.many)
