use Rattle.std.proofs.Common.{sym, ◌∙◌}
use Rattle.direct_printf.proofs.Spelling.{Digits-none, Digits-some, has_digits}
use Rattle.direct_printf.proofs.digits.number.Goals as goal

pub returns-then-least-eq0-clause-digits : goal.returns-then-least-eq0-clause-digits
returns-then-least-eq0-clause-digits c =
    λ base upper is. sym (Digits-none c.args.value base _ upper c.if-value-eq0.true (sym c.unwrap_or-least.ensures ∙ c.if-least-eq0.true))

pub returns-clause-digits : goal.returns-clause-digits
returns-clause-digits c =
    let some = has_digits c.args.value _ (rw c.unwrap_or-least.ensures at c.else-value-eq0.either) in
    λ base upper is. rw (c.saturating_sub.ensures, c.unwrap_or-least.ensures) (Digits-some c.args.value base _ upper c.args.spelled.now some is)
