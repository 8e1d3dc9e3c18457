use Rattle.std.proofs.Common.{arith}
use Rattle.log_dictionary.proofs.Decimals.{not_below}
use Rattle.log_dictionary.proofs.message_line.read_line_number.Goals as goal

pub returns-then-number-clause-none : goal.returns-then-number-clause-none
returns-then-number-clause-none c = λ n small e. not_below c.args.field.now c.in_ok-number.number n (omega arith) (omega arith) small c.in_ok-number.ensures.some e
