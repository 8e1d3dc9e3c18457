use Rattle.std.proofs.Common.{◌∙◌, sym, refl, arith}
use Rattle.std.proofs.lemmas.List.{nil_from_length}
use Rattle.std.proofs.lemmas.Bool.{eqb-true}
use Rattle.schedule_text.proofs.Judging.{at_end}
use Rattle.schedule_text.proofs.Runs.{front_none, front_more, front_cut, front_stops, front_done}
use Rattle.schedule_text.proofs.playing.run_steps.Goals as goal

pub loop-rest-init : goal.loop-rest-init
loop-rest-init g c = record {
  few = omega arith;
  reached = c.requires.reached;
  front = front_none _ _ _ c.requires.empty;
  counted = refl;
  others = g.met.O.Sink.rest_same _;
}

pub go_on-requires-clause-few : goal.go_on-requires-clause-few
go_on-requires-clause-few g c = c.loop-rest.invariant.few

pub go_on-requires-clause-reached : goal.go_on-requires-clause-reached
go_on-requires-clause-reached g c = c.loop-rest.invariant.reached

pub returns-in-Err-clause-runs : goal.returns-in-Err-clause-runs
returns-in-Err-clause-runs g c =
    let was = c.loop-rest.invariant in
    front_stops _ _ _ _ _ was.front c.go_on.new.rings c.in-Err.fault _ _ c.in-Err.ensures.stops was.counted

pub returns-in-Err-clause-others : goal.returns-in-Err-clause-others
returns-in-Err-clause-others g c = c.loop-rest.invariant.others

pub returns-in-Err-put_step-clause-runs : goal.returns-in-Err-put_step-clause-runs
returns-in-Err-put_step-clause-runs g c =
    let was = c.loop-rest.invariant in
    front_cut _ _ _ _ _ was.front _ _ _ _ _ _ c.in-Ok.ensures.made was.counted c.in-Err-put_step.ensures.cut_off

pub returns-in-Err-put_step-clause-others : goal.returns-in-Err-put_step-clause-others
returns-in-Err-put_step-clause-others g c = g.met.O.Sink.rest_then _ _ _ c.loop-rest.invariant.others c.put_step.ensures.others

pub loop-rest-preserved : goal.loop-rest-preserved
loop-rest-preserved g c =
    let was = c.loop-rest.invariant in
    record {
      few = omega (arith, c.in-Ok.ensures.few);
      reached = c.in-Ok.ensures.reached;
      front = front_more _ _ _ _ _ was.front _ _ _ _ c.in-Ok.ensures.made c.in-Ok-put_step.ensures.ok;
      counted = c.in-Ok-put_step.ensures.counted ∙ was.counted;
      others = g.met.O.Sink.rest_then _ _ _ was.others c.put_step.ensures.others;
    }

pub returns-clause-runs : goal.returns-clause-runs
returns-clause-runs g c =
    let was = c.loop-rest.invariant in
    front_done _ _ _ _ _ was.front _ _ _ (at_end _ _ _ _ (nil_from_length _ (eqb-true _ _ (sym c.is_empty.ensures ∙ c.loop-rest-test.false)))) was.counted

pub returns-clause-few : goal.returns-clause-few
returns-clause-few g c = c.loop-rest.invariant.reached.few

pub returns-clause-others : goal.returns-clause-others
returns-clause-others g c = c.loop-rest.invariant.others
