use Rattle.std.proofs.Common.{Some, ap, ◌∙◌, ◌≡◌, arith, string_bytes}
use Rattle.std.specs.FinMap as map
use Rattle.std.specs.Cmp.{nat_cmp_total}
use Rattle.nl_io.specs.Desk.{Held, ById}
use Rattle.nl_io.specs.Scripts.{all_faults}
use Rattle.nl_io.specs.MemFiles.{desk_of}
use Rattle.nl_io.specs.Titles.{titles_in}
use Rattle.nl_io.proofs.Tables.{by_id-remove, remove-insert}
use Rattle.nl_io.proofs.mem_files.MemFilesFiles.create.Goals as goal

-- the title that was kept is given up again
pub returns-in-Err-clause-err : goal.returns-in-Err-clause-err
returns-in-Err-clause-err c =
    let made : titles_in c.remove.new.self ≡ titles_in c.args.self.now.made = by_id-remove (λ name. Some (string_bytes name)) c.keep_title.new.made c.remove.new.self c.in-Ok.id c.remove.ensures.updates
    ∙ ap (λ (titles : ById). map.remove titles c.in-Ok.id) c.in-Ok.ensures.kept
    ∙ remove-insert nat_cmp_total map.nat_cmp-IsAntisymmetric (titles_in c.args.self.now.made) c.in-Ok.id (Some c.args.name.now) c.in-Ok.ensures.unmade in
    record {
      same = ap (λ (held : Held). record (desk_of c.args.self.now) { held = Some held; made = titles_in c.remove.new.self; write_faults = all_faults c.starve-in-Err.new.self }) c.in-Err.ensures.err
          ∙ ap (λ (titles : ById). record (desk_of c.args.self.now) { made = titles; write_faults = all_faults c.starve-in-Err.new.self }) made;
      count = omega (arith, c.starve-in-Err.ensures.more, ap (λ f. f.listed) c.starve-in-Err.ensures.counted);
    }
