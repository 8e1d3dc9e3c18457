use Rattle.std.proofs.Common.{arith}
use Rattle.std.proofs.lemmas.Result.{err_from_is_err_and}
use Rattle.printf_grammar.proofs.Sizes.{width_given, width_star_stops, width_stops}
use Rattle.printf_grammar.proofs.parts.width_of.Goals as goal

pub returns-in_err-number-in-49-to-57 : goal.returns-in_err-number-in-49-to-57
returns-in_err-number-in-49-to-57 c =
    let p = err_from_is_err_and c.from_residual.result c.from_residual.ensures.1 in
    rw (p.1, p.2) (λ flags are_flags. width_stops _ _ flags _ _ c.in_err-number-in-49-to-57.ensures (omega arith) are_flags)

pub returns-in-42 : goal.returns-in-42
returns-in-42 c = λ flags are_flags. width_star_stops _ _ flags c.in-42.len_at_least (omega arith) c.if-taken-eq-MAX_ARGUMENTS.true are_flags

pub returns-in_ok-number-in-49-to-57 : goal.returns-in_ok-number-in-49-to-57
returns-in_ok-number-in-49-to-57 c = (width_given _ _ _ c.in_ok-number-in-49-to-57.ensures c.in-49-to-57.len_at_least (omega arith) (omega arith), omega arith)
