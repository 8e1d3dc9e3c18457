use Rattle.std.proofs.Common.{sym, ◌∙◌}
use Rattle.source_scan.proofs.Digits.{decimal_digits}
use Rattle.source_scan.proofs.line_change.spelled_number.Goals as goal

pub value_within-requires-clause-digits : goal.value_within-requires-clause-digits
value_within-requires-clause-digits c = decimal_digits c.args.text.now (sym c.are_decimal.ensures ∙ c.if-not-are_decimal.false)
