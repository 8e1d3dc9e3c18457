use Rattle.preprocessor.proofs.RefusalLines.{lines_more, lines_all}
use Rattle.preprocessor.proofs.words.refusal_lines.Goals as goal

pub loop-refusal-preserved : goal.loop-refusal-preserved
loop-refusal-preserved c = lines_more _ _ c.refusal-item.result _ _ c.loop-refusal-test.true c.refusal-item.is c.loop-refusal.invariant c.in_ok-push_refusal.ensures.ok

pub returns : goal.returns
returns c = lines_all _ _ _ c.loop-refusal-test.false c.loop-refusal.invariant
