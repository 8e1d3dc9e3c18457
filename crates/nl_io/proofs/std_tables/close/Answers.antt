use Rattle.std.proofs.Common.{None}
use Rattle.nl_io.proofs.Tables.{by_id-remove}
use Rattle.nl_io.proofs.std_tables.close.Goals as goal

pub returns-in-Some-clause-closed : goal.returns-in-Some-clause-closed
returns-in-Some-clause-closed g c = by_id-remove (λ _. None) c.args.table.now c.remove.new.self c.args.id c.remove.ensures.updates

pub returns-in-None-clause-closed : goal.returns-in-None-clause-closed
returns-in-None-clause-closed g c = by_id-remove (λ _. None) c.args.table.now c.remove.new.self c.args.id c.remove.ensures.updates
