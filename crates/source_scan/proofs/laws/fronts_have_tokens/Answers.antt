use Rattle.source_scan.proofs.SomeTokens.{fronts-first, fronts-shorter, fronts-all}
use Rattle.source_scan.proofs.laws.fronts_have_tokens.Goals as goal

pub loop-front-init : goal.loop-front-init
loop-front-init c = fronts-first c.args.source.now

pub loop-front-preserved : goal.loop-front-preserved
loop-front-preserved c = fronts-shorter c.args.source.now c.loop-front.front.now c.in-len1-up.len_at_least c.loop-front.invariant c.some_list.ensures.tokens

pub returns : goal.returns
returns c = fronts-all c.args.source.now c.loop-front.front.now c.in_default.len_below c.loop-front.invariant c.some_list-2.ensures.tokens
