use Rattle.std.proofs.Common.{arith}
use Rattle.ring_machine.proofs.Reaching.{reach_part, reach_whole, reach_mark, reach_begin}
use Rattle.ring_machine.proofs.reach.Reach.onward.Goals as goal

pub returns-then-left-gt1 : goal.returns-then-left-gt1
returns-then-left-gt1 c w reach may = reach_part c.args.size w c.args.word c.args.self reach (omega arith)

pub returns-then-left-eq1 : goal.returns-then-left-eq1
returns-then-left-eq1 c w reach may = reach_whole c.args.size w c.args.word c.args.self reach (omega arith)

pub returns-then-word-eq0 : goal.returns-then-word-eq0
returns-then-word-eq0 c w reach may = reach_mark c.args.size w c.args.word c.args.self reach (omega arith) (omega arith)

pub returns : goal.returns
returns c w reach may = reach_begin c.args.size w c.args.word c.args.self reach may (omega arith) c.if-word-eq0.false
