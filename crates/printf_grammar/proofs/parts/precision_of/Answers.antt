use Rattle.std.proofs.Common.{arith}
use Rattle.std.proofs.lemmas.Result.{err_from_is_err_and}
use Rattle.printf_grammar.proofs.Runs.{first_and_rest}
use Rattle.printf_grammar.proofs.Sizes.{precision_given, precision_star_stops, precision_stops}
use Rattle.printf_grammar.proofs.parts.precision_of.Goals as goal
use Rattle.printf_grammar.proofs.parts.precision_of.Goals.{in_default-behind-via-then-behind-lt1, in_default-behind-via-else-behind-lt1+in_default-1}

pub returns-in_err-number-in_default-behind : goal.returns-in_err-number-in_default-behind
returns-in_err-number-in_default-behind c =
    let p = err_from_is_err_and c.from_residual.result c.from_residual.ensures.1 in
    let whole = first_and_rest 46 _ c.in-46.len_at_least (omega arith) in
    rw (p.1, p.2) (λ flags width size are_flags spelled. precision_stops _ _ _ flags width size _ _ c.in_err-number-in_default-behind.ensures whole are_flags spelled)

pub returns-in-42 : goal.returns-in-42
returns-in-42 c = λ flags width size are_flags spelled.
    precision_star_stops _ _ _ flags width size (first_and_rest 46 _ c.in-46.len_at_least (omega arith)) c.in-42.len_at_least (omega arith) c.if-taken-eq-MAX_ARGUMENTS.true are_flags spelled

pub returns-in_ok-number-in_default-behind : goal.returns-in_ok-number-in_default-behind
returns-in_ok-number-in_default-behind c = (
  precision_given _ _ _ _ c.in_ok-number-in_default-behind.ensures (first_and_rest 46 _ c.in-46.len_at_least (omega arith)) (elim c.in_default-behind.branch [
    | in_default-behind-via-then-behind-lt1 w ↦ λ some e. grind arith
    | in_default-behind-via-else-behind-lt1+in_default-1 w ↦ λ some e. grind arith
  ]),
  omega arith,
)
