use Rattle.std.proofs.Common.{Some, ap, ◌∙◌}
use Rattle.std.specs.Prelude.{length}
use Rattle.nl_io.specs.MemSources.{source_left, source_faults}
use Rattle.nl_io.specs.MemSinks.{sink_bytes}
use Rattle.nl_io.specs.Scripts.{all_faults}
use Rattle.session_commands.proofs.SelftestEnds.{put_all, whole_read, never_damaged, damaged_told}
use Rattle.session_commands.proofs.selftesting.read_log.Goals as goal

pub returns-in-Ok-clause-ok : goal.returns-in-Ok-clause-ok
returns-in-Ok-clause-ok c run batch whole =
    let (text, put, (counted, read)) = c.in-Ok.ensures.text in
    let told = whole_read run batch c.args.log.now _ text c.in-Ok.report whole c.in_ok-source.ensures.left read in
    (told.0, ap length (c.bytes.ensures ∙ put_all _ _ text put c.in_ok-text.ensures.empty ∙ told.1))

pub unreachable-requires : goal.unreachable-requires
unreachable-requires c =
    let (run, batch, whole) = c.requires.whole in
    let e = c.in-Err-Damaged in
    let old = c.in_ok-source.source in
    let new = c.decompress.new.source in
    let told = damaged_told (Some (source_left old)) _ (all_faults (source_faults old)) (all_faults (source_faults new)) (Some (sink_bytes c.in_ok-text.text)) (Some (sink_bytes c.decompress.new.out)) e.field-0 e.field-0-0 e.field-0-1 e.field-0-is e.ensures.text in
    never_damaged run batch c.args.log.now _ told.0 e.field-0-0 e.field-0-1 whole c.requires.short c.in_ok-source.ensures.left told.1
