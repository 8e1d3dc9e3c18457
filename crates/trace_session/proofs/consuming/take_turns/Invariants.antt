use Rattle.std.proofs.Common.{◌≡◌, Bool}
use Rattle.trace_session.specs.Workplaces.{works_at, TakesOneTurn}
use Rattle.trace_session.proofs.Workplaces.{TurnedUpTo}
use Rattle.trace_session.proofs.consuming.take_turns.Given as goal

abbrev pub invariant-loop-place : goal.invariant-loop-place
invariant-loop-place g l =
    (works_at g.I.StageIn.pair g.I.StageIn.words l.workplaces ≡ works_at g.I.StageIn.pair g.I.StageIn.words l.fn.workplaces)
    × TurnedUpTo (λ old new. (moved : Bool) × TakesOneTurn g.I.StageIn.at g.I.StageIn.words g.I.StageIn.seen g.I.StageIn.looks g.I.StageIn.closed old new moved) l.place l.fn.workplaces l.workplaces
