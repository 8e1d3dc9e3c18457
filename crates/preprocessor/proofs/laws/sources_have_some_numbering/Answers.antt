use Rattle.preprocessor.proofs.Existence.{one_listed, all_listed, sources_are_numbered, sources_have_refusals}
use Rattle.preprocessor.proofs.laws.sources_have_some_numbering.Goals as goal

pub loop-source-preserved : goal.loop-source-preserved
loop-source-preserved c =
    one_listed (λ source. source.now) c.args.sources.now c.loop-source.source-index _ c.loop-source-test.true
    c.loop-source.invariant c.some_list.ensures

pub returns : goal.returns
returns c =
    let listed = all_listed (λ source. source.now) c.args.sources.now c.loop-source.source-index c.loop-source-test.false
    c.loop-source.invariant in
    record {
      messages = λ files is. sources_are_numbered files (listed files is);
      refusals = λ files is. sources_have_refusals files (listed files is);
    }
