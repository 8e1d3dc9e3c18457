use Rattle.std.proofs.Common.{ℕ, refl, sym, subst}
use Rattle.roaming_consumer.specs.Gathering.{StopsTaking}
use Rattle.roaming_consumer.specs.Roamers.{roamer_room, roamer_batch}
use Rattle.roaming_consumer.proofs.Additions.{threw}
use Rattle.roaming_consumer.proofs.roamer.Roamer.throw_visit.Goals as goal

pub returns-then-frames-gt0-clause-writes : goal.returns-then-frames-gt0-clause-writes
returns-then-frames-gt0-clause-writes g c = λ put.
    let one = c.toss-frames.ensures.came in
    record {
      before = one.before;
      after = one.after;
      was = one.was;
      now = one.now;
      step = (refl, subst (λ (n : ℕ). StopsTaking g.S.StageOut.got g.S.StageOut.ended g.S.StageOut.loads (roamer_batch c.args.self.now) n (roamer_room c.args.self.now) one.before one.after) (sym c.from.ensures) one.step.2);
    }

pub returns-then-frames-gt0-clause-wrote : goal.returns-then-frames-gt0-clause-wrote
returns-then-frames-gt0-clause-wrote g c = λ put. threw g.S.StageOut.got g.S.StageOut.ended g.S.StageOut.loads g.S.StageOut.pair g.S.StageOut.plan c.args.self.now c.toss-frames.new.self c.args.writer c.toss-frames.result.frames c.toss-frames.result.ended put c.requires.begun c.requires.faulted c.toss-frames.ensures.came c.toss-frames.ensures.others

pub returns-then-ended-clause-wrote : goal.returns-then-ended-clause-wrote
returns-then-ended-clause-wrote g c = λ put. threw g.S.StageOut.got g.S.StageOut.ended g.S.StageOut.loads g.S.StageOut.pair g.S.StageOut.plan c.args.self.now c.toss-frames.new.self c.args.writer c.toss-frames.result.frames c.toss-frames.result.ended put c.requires.begun c.requires.faulted c.toss-frames.ensures.came c.toss-frames.ensures.others

pub returns-else-ended-clause-wrote : goal.returns-else-ended-clause-wrote
returns-else-ended-clause-wrote g c = λ put. threw g.S.StageOut.got g.S.StageOut.ended g.S.StageOut.loads g.S.StageOut.pair g.S.StageOut.plan c.args.self.now c.toss-frames.new.self c.args.writer c.toss-frames.result.frames c.toss-frames.result.ended put c.requires.begun c.requires.faulted c.toss-frames.ensures.came c.toss-frames.ensures.others
