use Rattle.std.proofs.Common.{refl, sym, ◌∙◌, arith}
use Rattle.log_dictionary.proofs.NumberLemmas.{one_read}
use Rattle.log_dictionary.proofs.numbers.one_digit.Goals as goal

pub returns : goal.returns
returns c = rw c.from.ensures (one_read c.args.bytes.now 1 c.in-Some.digit (omega (arith, c.in-len1-up.len_at_least)) refl c.in-Some.ensures.value c.in-Some.ensures.below (sym c.ends_field.ensures ∙ c.if-not-ends_field.false))
