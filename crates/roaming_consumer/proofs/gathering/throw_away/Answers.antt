use Rattle.std.proofs.Common.{refl, ap, ◌∙◌, arith}
use Rattle.roaming_consumer.specs.Gathering.StopsTaking.{nothing_is_there}
use Rattle.roaming_consumer.proofs.TakenFrames.{came_none, came_more}
use Rattle.roaming_consumer.proofs.gathering.throw_away.Goals as goal

pub loop-frames-init : goal.loop-frames-init
loop-frames-init g c = record {
  came = came_none (g.S.StageOut.got c.args.end.now);
  fresh = λ none. refl;
  going = λ ended. refl;
  loads = omega arith;
  same_pair = refl;
  same_plan = refl;
}

pub loop-frames-preserved : goal.loop-frames-preserved
loop-frames-preserved g c =
    let was = c.loop-frames.invariant in
    let taken = c.in-Frame.ensures in
    record {
      came = came_more (g.S.StageOut.got c.args.end.now) (g.S.StageOut.got c.loop-frames.end) (g.S.StageOut.got c.take.new.self) _ c.loop-frames.frames was.came taken.frame;
      fresh = λ none. absurd (omega (arith, none));
      going = λ ended.
          let first = was.fresh (was.going ended) in
          let over = taken.stays_ended (ap g.S.StageOut.ended first ∙ ended) in
          absurd (cc over);
      loads = let before = was.loads in omega (arith, before, taken.loads_never_fall);
      same_pair = taken.same.0 ∙ was.same_pair;
      same_plan = taken.same.1 ∙ was.same_plan;
    }

pub returns-in-Nothing-clause-stops : goal.returns-in-Nothing-clause-stops
returns-in-Nothing-clause-stops g c =
    let e = c.in-Nothing.ensures in
    λ free. nothing_is_there c.loop-frames.end c.loop-frames.invariant.loads (e.none, e.ended, e.nothing refl)
