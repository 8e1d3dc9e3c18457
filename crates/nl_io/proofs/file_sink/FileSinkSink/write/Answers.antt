use Rattle.std.proofs.Common.{refl}
use Rattle.nl_io.proofs.Names.{still_made, taken_put, kept_put, puts_same}
use Rattle.nl_io.proofs.file_sink.FileSinkSink.write.Goals as goal

pub invariant_of-self : goal.invariant_of-self
invariant_of-self g c = record { made = still_made c.write.result _ _ c.args.self.now.id c.args.bytes.now c.args.self.now.made c.write.ensures.taken c.write.ensures.err }

pub returns-clause-taken : goal.returns-clause-taken
returns-clause-taken g c = taken_put c.write.result _ _ c.args.self.now.id c.args.bytes.now c.args.self.now.made c.write.ensures.taken

pub returns-clause-err : goal.returns-clause-err
returns-clause-err g c = kept_put c.write.result _ _ c.args.self.now.id c.write.ensures.err

pub returns-clause-others : goal.returns-clause-others
returns-clause-others g c = (refl, refl, puts_same c.write.result _ _ c.args.self.now.id c.args.bytes.now c.write.ensures.taken c.write.ensures.err, c.write.ensures.others)
