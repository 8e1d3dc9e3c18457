use Rattle.std.proofs.Common.{arith}
use Rattle.std.proofs.lemmas.Grind.{common_steps}
use Rattle.source_tokens.proofs.Splicing.{past-step, past-none}
use Rattle.source_tokens.proofs.splice.past_splices.Goals as goal

pub loop-len-preserved : goal.loop-len-preserved
loop-len-preserved c = grind (arith, common_steps, past-step c.loop-len.rest.now)

pub returns-clause-after : goal.returns-clause-after
returns-clause-after c = grind (arith, common_steps, past-none c.loop-len.rest.now)
