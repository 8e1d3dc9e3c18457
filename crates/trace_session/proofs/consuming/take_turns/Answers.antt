use Rattle.std.proofs.Common.{Bool, ◌∙◌, arith}
use Rattle.trace_session.specs.Workplaces.{TakesOneTurn}
use Rattle.trace_session.proofs.Workplaces.{works_still, turned_more, turned_all}
use Rattle.trace_session.proofs.consuming.take_turns.Goals as goal

pub loop-place-preserved : goal.loop-place-preserved
loop-place-preserved g c = (
  works_still g.I.StageIn.pair g.I.StageIn.words c.loop-place.workplaces c.loop-place.place _ c.take_turn.new.self c.take_turn.ensures.same ∙ c.loop-place.invariant.0,
  turned_more (λ old new. (moved : Bool) × TakesOneTurn g.I.StageIn.at g.I.StageIn.words g.I.StageIn.seen g.I.StageIn.looks g.I.StageIn.closed old new moved) c.loop-place.place _ c.loop-place.workplaces _ c.take_turn.new.self
      (omega (arith, c.loop-place-test.true, c.loop-place.auto.workplaces)) c.loop-place.invariant.1 (c.take_turn.result, c.take_turn.ensures.turn),
)

pub returns-clause-turns : goal.returns-clause-turns
returns-clause-turns g c =
    turned_all (λ old new. (moved : Bool) × TakesOneTurn g.I.StageIn.at g.I.StageIn.words g.I.StageIn.seen g.I.StageIn.looks g.I.StageIn.closed old new moved) c.loop-place.place c.args.workplaces.now c.loop-place.workplaces
    (omega (arith, c.loop-place-test.false)) c.loop-place.invariant.1
