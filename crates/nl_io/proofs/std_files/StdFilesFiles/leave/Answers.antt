use Rattle.std.proofs.Common.{None, ap}
use Rattle.nl_io.specs.Desk.{Desk, ById}
use Rattle.nl_io.specs.Untold.{ids_in}
use Rattle.nl_io.proofs.Tables.{by_id-remove}
use Rattle.nl_io.proofs.std_files.StdFilesFiles.leave.Goals as goal

pub returns-clause-left : goal.returns-clause-left
returns-clause-left g c =
    let desk : ById → Desk = λ left. record { held = None; left = left; made = ids_in c.args.self.now.made; read_faults = c.args.self.now.read_faults; write_faults = c.args.self.now.write_faults } in
    ap desk (by_id-remove (λ _. None) c.args.self.now.reading c.remove.new.self c.args.id c.remove.ensures.updates)
