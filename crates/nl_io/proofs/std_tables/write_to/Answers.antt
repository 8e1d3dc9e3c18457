use Rattle.std.proofs.Common.{None, refl, sym, ap, ◌∙◌, rules}
use Rattle.std.specs.Option.{option_copied_mut}
use Rattle.nl_io.proofs.Tables.{by_id-has, by_id-written, found_mut}
use Rattle.nl_io.proofs.std_tables.write_to.Goals as goal

pub unwrap-file-requires : goal.unwrap-file-requires
unwrap-file-requires g c = found_mut c.get_mut.result _ c.get_mut.ensures.value (by_id-has (λ _. None) c.args.table.now c.args.id c.requires)

pub returns-clause-same : goal.returns-clause-same
returns-clause-same g c =
    let found = sym c.get_mut.ensures.value ∙ ap option_copied_mut c.unwrap-file.ensures in
    by_id-written (λ _. None) c.args.table.now (c.get_mut.follows.lender c.write_some.new.writer) c.args.id c.unwrap-file.result.now c.write_some.new.writer found ((c.get_mut.follows.holds c.write_some.new.writer).3 (search rules)) refl
