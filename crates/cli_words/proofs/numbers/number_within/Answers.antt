use Rattle.std.proofs.Common.{arith}
use Rattle.cli_words.proofs.Spelled.{number_read, number_refused, unsigned_start}
use Rattle.cli_words.proofs.numbers.number_within.Goals as goal

pub returns-in-Ok : goal.returns-in-Ok
returns-in-Ok c =
    number_read c.args.least c.args.most c.in-Ok.number c.args.digits.now c.parse.result c.parse.ensures.value.0
    (unsigned_start c.args.digits.now c.starts_with.result
    (c.starts_with.ensures.byte (omega arith) (omega arith) (λ w o h. h)) c.if-starts_with.false)
    c.if-digits-gt-MAX_DIGITS.false c.in-Ok.is c.if-least-number.true c.if-number-most.true

pub returns-in_default-3 : goal.returns-in_default-3
returns-in_default-3 c =
    number_refused c.args.least c.args.most c.in_default.field-0 c.args.digits.now c.parse.result c.parse.ensures.value.0
    (unsigned_start c.args.digits.now c.starts_with.result
    (c.starts_with.ensures.byte (omega arith) (omega arith) (λ w o h. h)) c.if-starts_with.false)
    c.in_default.is (omega arith)
