use Rattle.std.proofs.Common.{◌∙◌, sym, arith}
use Rattle.log_dictionary.proofs.NumberLemmas.{zero_read, digits_read}
use Rattle.log_dictionary.proofs.numbers.split_natural.Goals as goal

pub returns-in-48 : goal.returns-in-48
returns-in-48 c = c.if_ends.ensures ∙ zero_read c.args.bytes.now (omega arith) (omega arith)

pub returns-in_default-bytes : goal.returns-in_default-bytes
returns-in_default-bytes c =
    let read = c.split_digits-number in
    c.if_ends-in_default-bytes.ensures ∙ sym (digits_read c.args.bytes.now read.result.0 read.result.1.now (omega arith) (λ e. omega (arith, e)) (λ e. omega (arith, e)) (record { number_is = read.ensures.number; rest_is = read.ensures.rest }))
