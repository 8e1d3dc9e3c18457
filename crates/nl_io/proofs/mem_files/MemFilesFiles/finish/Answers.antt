use Rattle.std.proofs.Common.{Some, ap, arith, string_bytes}
use Rattle.nl_io.specs.Desk.{ById}
use Rattle.nl_io.specs.Scripts.{all_faults}
use Rattle.nl_io.specs.MemFiles.{desk_of}
use Rattle.nl_io.proofs.Tables.{by_id-remove}
use Rattle.nl_io.proofs.mem_files.MemFilesFiles.finish.Goals as goal

pub returns-then-next_call-clause-finished : goal.returns-then-next_call-clause-finished
returns-then-next_call-clause-finished c = record {
  finished = ap (λ (made : ById). record (desk_of c.args.self.now) { made = made; write_faults = all_faults c.fail.new.self })
      (by_id-remove (λ name. Some (string_bytes name)) c.args.self.now.made c.remove.new.self c.args.id c.remove.ensures.updates);
  count = omega (arith, c.fail.ensures.more, ap (λ f. f.starved) c.fail.ensures.counted);
}

pub returns-clause-finished : goal.returns-clause-finished
returns-clause-finished c = record {
  finished = ap (λ (made : ById). record (desk_of c.args.self.now) { made = made })
      (by_id-remove (λ name. Some (string_bytes name)) c.args.self.now.made c.remove.new.self c.args.id c.remove.ensures.updates);
  count = omega arith;
}
