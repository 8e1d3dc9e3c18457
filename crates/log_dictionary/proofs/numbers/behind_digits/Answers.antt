use Rattle.std.proofs.Common.{refl, arith}
use Rattle.log_dictionary.proofs.NumberLemmas.{digits_stop, digits_end, behind_step, behind_stop}
use Rattle.log_dictionary.proofs.numbers.behind_digits.Goals as goal

pub returns-in_default : goal.returns-in_default
returns-in_default c = behind_stop c.args.bytes.now c.loop-end.end _ c.loop-end.invariant (digits_stop c.args.bytes.now c.loop-end.end 0 (omega arith) c.in_default.ensures.value) refl

pub loop-end-preserved : goal.loop-end-preserved
loop-end-preserved c = behind_step c.args.bytes.now c.loop-end.end _ c.loop-end.invariant (omega arith) c.in-Some.ensures.value

pub returns : goal.returns
returns c = behind_stop c.args.bytes.now c.loop-end.end _ c.loop-end.invariant (digits_end c.args.bytes.now c.loop-end.end 0 (omega arith)) (omega arith)
