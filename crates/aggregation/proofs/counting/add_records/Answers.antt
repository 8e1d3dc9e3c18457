use Rattle.std.proofs.Common.{List, [], ◌∷◌, subst}
use Rattle.printf_grammar.specs.declared.argument.Arg.{Arg}
use Rattle.printf_grammar.specs.Types.{values_of}
use Rattle.buffer_extent.specs.Reading.{call_of}
use Rattle.aggregation.specs.Totals.{numbers_in, Adds}
use Rattle.aggregation.proofs.Records.{none_counted, one_counted, falls, all_counted}
use Rattle.aggregation.proofs.counting.add_records.Goals as goal

pub loop-head-init : goal.loop-head-init
loop-head-init c = none_counted c.args.dictionary.now c.args.base c.args.body.now c.args.id c.args.nth c.args.totals.now c.requires.few c.requires.within

pub loop-head-smaller : goal.loop-head-smaller
loop-head-smaller c =
    let l = c.loop-head in
    falls c.args.dictionary.now c.args.base c.args.body.now c.args.id c.args.nth c.args.totals.now l.before l.rest.now l.totals l.invariant _ c.in-Ok.back.now c.in-Ok.ensures

pub loop-head-preserved : goal.loop-head-preserved
loop-head-preserved c =
    let l = c.loop-head in
    let adds = subst (λ (args : List Arg). Adds l.totals c.with_record.result (numbers_in c.args.id c.args.nth (call_of c.in-Ok.head (values_of args) ∷ [])) 1) c.as_slice.ensures.value c.with_record.ensures in
    one_counted c.args.dictionary.now c.args.base c.args.body.now c.args.id c.args.nth c.args.totals.now l.before l.rest.now l.totals l.invariant _ c.in-Ok.back.now c.in-Ok.ensures c.with_record.result adds

pub returns : goal.returns
returns c =
    let l = c.loop-head in
    all_counted c.args.dictionary.now c.args.base c.args.body.now c.args.id c.args.nth c.args.totals.now l.before l.rest.now l.totals l.invariant c.in_default.field-0 c.in_default.ensures
