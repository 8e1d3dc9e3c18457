use Rattle.std.proofs.Common.{None}
use Rattle.nl_io.proofs.Tables.{by_id-unused, by_id-insert}
use Rattle.nl_io.proofs.std_tables.keep.Goals as goal

pub returns-in-Ok-clause-here : goal.returns-in-Ok-clause-here
returns-in-Ok-clause-here g c = by_id-unused (λ _. None) c.args.table.now c.in-Ok.id c.in-Ok.ensures.here

pub returns-in-Ok-clause-there : goal.returns-in-Ok-clause-there
returns-in-Ok-clause-there g c = by_id-unused (λ _. None) c.args.other.now c.in-Ok.id c.in-Ok.ensures.there

pub returns-in-Ok-clause-kept : goal.returns-in-Ok-clause-kept
returns-in-Ok-clause-kept g c = by_id-insert (λ _. None) c.args.table.now c.insert_unused.new.table c.in-Ok.id c.args.file c.in-Ok.ensures.inserted
