use Rattle.log_dictionary.proofs.NumberLemmas.{whole_read, not_whole}
use Rattle.log_dictionary.proofs.numbers.value_of.Goals as goal

pub returns-in_default-empty : goal.returns-in_default-empty
returns-in_default-empty c =
    let read = c.split_digits-value in
    whole_read c.args.digits.now read.result.0 read.result.1.now (record { number_is = read.ensures.number; rest_is = read.ensures.rest }) c.in_default-empty.len_below

pub returns-in_default : goal.returns-in_default
returns-in_default c =
    let read = c.split_digits-value in
    not_whole c.args.digits.now read.result.0 read.result.1.now (record { number_is = read.ensures.number; rest_is = read.ensures.rest }) c.in_default.len_at_least
