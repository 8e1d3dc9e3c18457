use Rattle.std.proofs.Common.{refl, ap, arith}
use Rattle.log_ends.specs.Rooms.{definitions_len}
use Rattle.log_ends.proofs.Faultless.{visit_succeeds, stays_unfaulted, stays_unrefused}
use Rattle.log_ends.proofs.Visiting.{visited, again_ended, held_after}
use Rattle.log_ends.proofs.consumer.ConsumerEnd.visit.Goals as goal

pub invariant_of-self-clause-unfaulted : goal.invariant_of-self-clause-unfaulted
invariant_of-self-clause-unfaulted c =
    let e = c.visit.ensures in let self = c.args.self.now in
    stays_unfaulted self.roamer c.visit.new.self c.visit.result
    (visit_succeeds self.roamer c.visit.new.self self.backlog c.visit.new.sink c.args.writer c.visit.result c.requires.none self.unrefused self.roomy e.others e.cause e.stops)
    e.ok self.unfaulted

pub invariant_of-self-clause-unrefused : goal.invariant_of-self-clause-unrefused
invariant_of-self-clause-unrefused c =
    let e = c.visit.ensures in let self = c.args.self.now in
    stays_unrefused self.backlog c.visit.new.sink c.visit.result
    (visit_succeeds self.roamer c.visit.new.self self.backlog c.visit.new.sink c.args.writer c.visit.result c.requires.none self.unrefused self.roomy e.others e.cause e.stops)
    e.counted self.unrefused

pub invariant_of-self-clause-roomy : goal.invariant_of-self-clause-roomy
invariant_of-self-clause-roomy c =
    let e = c.visit.ensures in let roomy = c.args.self.now.roomy in
    omega (arith, ap definitions_len e.same_run.messages, e.others.room, roomy)

pub invariant_of-self-clause-held : goal.invariant_of-self-clause-held
invariant_of-self-clause-held c =
    let one = c.visit.ensures.visits in
    held_after c.args.self.now.ending _ _ c.args.writer one.before one.after c.args.self.now.held one.was one.now one.step.1

pub returns : goal.returns
returns c =
    let e = c.in-Ok.ensures in let self = c.args.self.now in
    visited self _ c.args.writer c.in-Ok.visit c.requires.none e.visits (e.written self.unfaulted) e.marks e.writes e.wrote e.same_run (again_ended _ c.args.writer c.in-Ok.visit _ e.again) refl refl refl (record { ending = refl; earlier = refl })
