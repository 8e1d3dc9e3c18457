use Rattle.std.proofs.Common.{refl}
use Rattle.nl_io.proofs.Ids.{still_reading, moved_left, takes_same}
use Rattle.nl_io.proofs.file_source.FileSourceSource.read.Goals as goal

pub invariant_of-self : goal.invariant_of-self
invariant_of-self g c = record { reading = still_reading c.read.result _ _ c.args.self.now.id c.args.self.now.reading c.read.ensures.moved c.read.ensures.err }

pub returns-clause-moved : goal.returns-clause-moved
returns-clause-moved g c = moved_left c.read.result _ _ c.args.self.now.id c.args.self.now.reading c.read.ensures.moved

pub returns-clause-others : goal.returns-clause-others
returns-clause-others g c = (refl, refl, takes_same c.read.result _ _ c.args.self.now.id c.args.self.now.reading c.read.ensures.moved c.read.ensures.err, c.read.ensures.others)
