use Rattle.std.proofs.Common.{◌∙◌, take, sym, subst}
use Rattle.std.specs.Str.Parse.{AllDigits}
use Rattle.source_scan.proofs.Digits.{all_digits, run-ends, run-whole}
use Rattle.source_scan.proofs.escape.digits_of.Goals as goal

pub returns-then-not-is_digit-clause-digits : goal.returns-then-not-is_digit-clause-digits
returns-then-not-is_digit-clause-digits c =
    run-ends c.args.radix c.args.most c.min.result c.args.bytes.now c.loop-place.place c.min.ensures c.loop-place.auto.place-end c.loop-place.invariant (λ within. sym c.is_digit.ensures.value ∙ c.if-not-is_digit.true)

pub returns-then-not-is_digit-clause-are_digits : goal.returns-then-not-is_digit-clause-are_digits
returns-then-not-is_digit-clause-are_digits c =
    let digits =
    run-ends c.args.radix c.args.most c.min.result c.args.bytes.now c.loop-place.place c.min.ensures c.loop-place.auto.place-end c.loop-place.invariant (λ within. sym c.is_digit.ensures.value ∙ c.if-not-is_digit.true)
    in
    subst (AllDigits c.args.radix) (sym digits) (all_digits c.args.radix (take c.args.most c.args.bytes.now))

pub returns-clause-digits : goal.returns-clause-digits
returns-clause-digits c = run-whole c.args.radix c.args.most c.min.result c.args.bytes.now c.loop-place.place c.min.ensures c.loop-place-test.false c.loop-place.auto.place-end c.loop-place.invariant

pub returns-clause-are_digits : goal.returns-clause-are_digits
returns-clause-are_digits c =
    let digits = run-whole c.args.radix c.args.most c.min.result c.args.bytes.now c.loop-place.place c.min.ensures c.loop-place-test.false c.loop-place.auto.place-end c.loop-place.invariant in
    subst (AllDigits c.args.radix) (sym digits) (all_digits c.args.radix (take c.args.most c.args.bytes.now))
