use Rattle.std.proofs.Common.{◌∙◌, refl, arith}
use Rattle.log_dictionary.proofs.NumberLemmas.{digits_step, digits_stop, digits_end, ended, overflowed}
use Rattle.log_dictionary.proofs.numbers.more_digits.Goals as goal

pub returns-in_default : goal.returns-in_default
returns-in_default c =
    let at = c.loop-end in
    let is = ended c.args.first c.args.bytes.now at.end at.end at.number at.invariant (digits_stop c.args.bytes.now at.end at.number (omega arith) c.in_default.ensures.value) refl in
    record { number = is.number_is; rest = is.rest_is }

pub returns-in_default-with_digit : goal.returns-in_default-with_digit
returns-in_default-with_digit c =
    let at = c.loop-end in
    let is = overflowed c.args.first c.args.bytes.now at.end at.number c.in-Some.digit c.behind_digits.result.now at.invariant (omega arith) c.in-Some.ensures.value (omega (arith, c.in_default-with_digit.ensures)) c.behind_digits.ensures in
    record { number = is.number_is; rest = is.rest_is }

pub loop-end-preserved : goal.loop-end-preserved
loop-end-preserved c =
    let at = c.loop-end in
    rw c.in-Some-with_digit.ensures.1 (record { read = at.invariant.read ∙ digits_step c.args.bytes.now at.end at.number c.in-Some.digit (omega arith) c.in-Some.ensures.value; fits = c.in-Some-with_digit.ensures.0 })

pub returns : goal.returns
returns c =
    let at = c.loop-end in
    let is = ended c.args.first c.args.bytes.now at.end _ at.number at.invariant (digits_end c.args.bytes.now at.end at.number (omega arith)) (omega arith) in
    record { number = is.number_is; rest = is.rest_is }
