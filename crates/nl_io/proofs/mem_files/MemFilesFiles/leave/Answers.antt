use Rattle.std.proofs.Common.{Some, ap}
use Rattle.nl_io.specs.Desk.{ById}
use Rattle.nl_io.specs.MemFiles.{desk_of}
use Rattle.nl_io.specs.Readings.{left_of}
use Rattle.nl_io.proofs.Tables.{by_id-remove}
use Rattle.nl_io.proofs.mem_files.MemFilesFiles.leave.Goals as goal

pub returns-clause-left : goal.returns-clause-left
returns-clause-left c =
    ap (λ (left : ById). record (desk_of c.args.self.now) { left = left }) (by_id-remove (λ reading. Some (left_of reading)) c.args.self.now.reading c.remove.new.self c.args.id c.remove.ensures.updates)
