use Rattle.std.proofs.Common.{ap}
use Rattle.std.proofs.lemmas.Bool.{both_ways}
use Rattle.roaming_consumer.specs.Growth.{LogProgress}
use Rattle.roaming_consumer.specs.Roamers.{is_faulted}
use Rattle.roaming_consumer.proofs.lemmas.Marking.{marks_stay}
use Rattle.roaming_consumer.proofs.Standing.{planned_after, count_after}
use Rattle.roaming_consumer.proofs.roamer.Roamer.visit.Goals as goal

pub returns-then-self-clause-wrote : goal.returns-then-self-clause-wrote
returns-then-self-clause-wrote g c = c.throw_visit.ensures.wrote _

pub returns-then-self-clause-planned : goal.returns-then-self-clause-planned
returns-then-self-clause-planned g c =
    let one = c.throw_visit.ensures.visits in
    planned_after g.S.StageOut.plan c.args.self.now c.throw_visit.new.self c.args.writer one.before one.after c.requires.planned one.was one.now one.step.1.same_plan c.throw_visit.ensures.others.same_run

pub returns-clause-planned : goal.returns-clause-planned
returns-clause-planned g c =
    let one = c.write_visit.ensures.visits in
    planned_after g.S.StageOut.plan c.args.self.now c.write_visit.new.self c.args.writer one.before one.after c.requires.planned one.was one.now one.step.1.same_plan c.write_visit.ensures.same_run

pub returns-then-self-clause-same_count : goal.returns-then-self-clause-same_count
returns-then-self-clause-same_count g c = count_after _ _ _ c.throw_visit.ensures.visits

pub returns-clause-same_count : goal.returns-clause-same_count
returns-clause-same_count g c = count_after _ _ _ c.write_visit.ensures.visits

pub returns-then-self-clause-marks : goal.returns-then-self-clause-marks
returns-then-self-clause-marks g c =
    marks_stay _ c.args.writer c.args.self.now c.throw_visit.new.self (ap (λ (p : LogProgress). p.closed) c.throw_visit.ensures.others.progress) (λ unfaulted is. absurd (both_ways (is_faulted c.args.self.now) unfaulted c.if-self.true))

pub returns-then-self-clause-writes : goal.returns-then-self-clause-writes
returns-then-self-clause-writes g c = c.throw_visit.ensures.writes _
