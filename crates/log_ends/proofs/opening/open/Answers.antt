use Rattle.std.proofs.Common.{inl, inr}
use Rattle.log_ends.proofs.opening.open.Goals as goal

pub returns-in-Err-clause-only : goal.returns-in-Err-clause-only
returns-in-Err-clause-only c =
    λ ok line refused. elim (c.in-Err.ensures.only line refused) [ inl told ↦ inl cc | inr told ↦ inr cc ]

pub returns-in-Ok-session_over-clause-only : goal.returns-in-Ok-session_over-clause-only
returns-in-Ok-session_over-clause-only c = λ ok line refused. elim (c.in-Ok.ensures.only line refused) [ inl told ↦ absurd cc | inr told ↦ absurd cc ]
