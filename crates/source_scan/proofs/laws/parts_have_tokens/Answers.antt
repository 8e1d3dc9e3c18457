use Rattle.source_scan.proofs.SomeTokens.{rests-first, rests-shorter, rests-all}
use Rattle.source_scan.proofs.laws.parts_have_tokens.Goals as goal

pub loop-rest-init : goal.loop-rest-init
loop-rest-init c = rests-first c.args.source.now

pub loop-rest-preserved : goal.loop-rest-preserved
loop-rest-preserved c = rests-shorter c.args.source.now c.loop-rest.rest.now c.in-len1-up.len_at_least c.loop-rest.invariant c.fronts_have_tokens.ensures

pub returns : goal.returns
returns c = rests-all c.args.source.now c.loop-rest.rest.now c.in_default.len_below c.loop-rest.invariant c.fronts_have_tokens-2.ensures
