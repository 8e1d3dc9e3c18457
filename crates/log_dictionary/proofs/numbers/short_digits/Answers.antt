use Rattle.std.proofs.Common.{◌<◌, ◌+◌, ◌*◌, ◌^◌, arith}
use Rattle.log_dictionary.proofs.NumberLemmas.{digits_stop, digits_end, fits_short, short_more}
use Rattle.log_dictionary.proofs.numbers.short_digits.Goals as goal
use Rattle.log_dictionary.proofs.numbers.short_digits.Goals.{In-Some}

-- the number with one digit more
longer_fits : (c : In-Some) → c.loop-end.number * 10 + c.in-Some.digit < 2 ^ 64
longer_fits c = fits_short c.loop-end.end c.loop-end.number c.in-Some.digit (omega arith) c.loop-end.invariant.few c.in-Some.ensures.below

pub overflow_mul-number : goal.overflow_mul-number
overflow_mul-number c = omega (arith, longer_fits (goal.at.overflow_mul-number c).In-Some)

pub overflow_add-number : goal.overflow_add-number
overflow_add-number c = omega (arith, longer_fits (goal.at.overflow_add-number c).In-Some, c.from.ensures)

pub returns-in_default-clause-all : goal.returns-in_default-clause-all
returns-in_default-clause-all c few = digits_stop c.args.bytes.now c.loop-end.end c.loop-end.number (omega arith) c.in_default.ensures.value

pub loop-end-preserved : goal.loop-end-preserved
loop-end-preserved c = rw c.from.ensures (short_more c.args.bytes.now c.loop-end.end c.loop-end.number c.in-Some.digit c.loop-end.invariant (omega arith) c.in-Some.ensures.value c.in-Some.ensures.below)

pub returns-clause-all : goal.returns-clause-all
returns-clause-all c few = digits_end c.args.bytes.now c.min-short.result c.loop-end.number (omega (arith, c.min-short.ensures, few))
