use Rattle.std.proofs.Common.{◌≡◌, ◌+◌, ℕ, List, [], ◌∷◌, ◌++◌, take, refl, sym, ap, subst, ◌∙◌, arith}
use Rattle.ring_core.specs.Plans.{Plan, plan_of, Lawful}
use Rattle.roaming_consumer.specs.Gathering.{DraftsFrames}
use Rattle.roaming_consumer.specs.Gathering.StopsTaking.{nothing_is_there}
use Rattle.roaming_consumer.proofs.TakenFrames.{taken_call, gathers_more}
use Rattle.roaming_consumer.proofs.gathering.gather.Goals as goal

pub put_frame-draft-requires-clause-frame : goal.put_frame-draft-requires-clause-frame
put_frame-draft-requires-clause-frame g c =
    let was = c.loop-taken.invariant in
    let frame : List ℕ = take c.in-Frame.len c.take.new.into in
    let plan : g.S.StageOut.plan c.loop-taken.end ≡ plan_of c.args.dictionary.now c.args.tick = was.same_plan ∙ c.requires.planned in
    let lawful : Lawful (plan_of c.args.dictionary.now c.args.tick) (g.S.StageOut.got c.loop-taken.end ++ frame ∷ []) =
    subst (Lawful (plan_of c.args.dictionary.now c.args.tick)) c.in-Frame.ensures.frame (subst (λ (p : Plan). Lawful p (g.S.StageOut.got c.take.new.self)) plan c.in-Frame.ensures.lawful) in
    taken_call c.args.dictionary.now c.args.tick (g.S.StageOut.got c.args.end.now) (g.S.StageOut.got c.loop-taken.end) c.loop-taken.draft c.loop-taken.body frame was.gathers lawful

pub loop-taken-preserved : goal.loop-taken-preserved
loop-taken-preserved g c =
    let was = c.loop-taken.invariant in
    let taken = c.in-Frame.ensures in
    let frame : List ℕ = take c.in-Frame.len c.take.new.into in
    let plan : g.S.StageOut.plan c.loop-taken.end ≡ plan_of c.args.dictionary.now c.args.tick = was.same_plan ∙ c.requires.planned in
    let lawful : Lawful (plan_of c.args.dictionary.now c.args.tick) (g.S.StageOut.got c.loop-taken.end ++ frame ∷ []) =
    subst (Lawful (plan_of c.args.dictionary.now c.args.tick)) taken.frame (subst (λ (p : Plan). Lawful p (g.S.StageOut.got c.take.new.self)) plan taken.lawful) in
    record {
      gathers =
          subst (λ (got : List (List ℕ)). DraftsFrames c.args.dictionary.now c.args.tick (g.S.StageOut.got c.args.end.now) got c.put_frame-draft.result c.put_frame-draft.new.body) (sym taken.frame)
          (gathers_more c.args.dictionary.now c.args.tick (g.S.StageOut.got c.args.end.now) (g.S.StageOut.got c.loop-taken.end) c.loop-taken.draft c.put_frame-draft.result c.loop-taken.body c.put_frame-draft.new.body frame was.gathers lawful c.put_frame-draft.ensures.goes_on);
      records = c.put_frame-draft.ensures.records ∙ ap (λ (n : ℕ). n + 1) was.records;
      fresh = λ none. absurd (omega (arith, none));
      going = λ ended.
          let first = was.fresh (was.going ended) in
          let over = taken.stays_ended (ap g.S.StageOut.ended first ∙ ended) in
          absurd (cc over);
      loads = let before = was.loads in omega (arith, before, taken.loads_never_fall);
      same_pair = taken.same.0 ∙ was.same_pair;
      same_plan = taken.same.1 ∙ was.same_plan;
    }

pub returns-in-Nothing-clause-stops : goal.returns-in-Nothing-clause-stops
returns-in-Nothing-clause-stops g c =
    let e = c.in-Nothing.ensures in
    nothing_is_there c.loop-taken.end c.loop-taken.invariant.loads (e.none, e.ended, e.nothing refl)
