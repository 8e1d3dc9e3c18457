use Rattle.std.proofs.Common.{refl}
use Rattle.roaming_consumer.specs.Parting.{IsStopped}
use Rattle.roaming_consumer.proofs.Holding.{written_back, held_stands, planned_across}
use Rattle.roaming_consumer.proofs.roamer.Roamer.end_part.Goals as goal

pub returns-clause-stands : goal.returns-clause-stands
returns-clause-stands g c =
    held_stands g.S.StageOut.got g.S.StageOut.ended g.S.StageOut.plan c.args.self.now _ (written_back (IsStopped g.S.StageOut.got g.S.StageOut.ended g.S.StageOut.plan) c.args.self.now.ends.items c.deref_mut.result.now c.end_each.new.ends c.args.self.now.ends.len c.deref_mut.ensures.value c.end_each.ensures.count c.deref_mut.ensures.len c.end_each.ensures.held) (record { same_run = record { messages = refl; version = refl; clocks = refl; clock = refl; batch = refl }; progress = refl; begun = refl; faulted = refl })

pub returns-clause-planned : goal.returns-clause-planned
returns-clause-planned g c =
    planned_across (IsStopped g.S.StageOut.got g.S.StageOut.ended g.S.StageOut.plan) g.S.StageOut.plan c.args.self.now _ (λ before after is. is.same_plan) (written_back (IsStopped g.S.StageOut.got g.S.StageOut.ended g.S.StageOut.plan) c.args.self.now.ends.items c.deref_mut.result.now c.end_each.new.ends c.args.self.now.ends.len c.deref_mut.ensures.value c.end_each.ensures.count c.deref_mut.ensures.len c.end_each.ensures.held)
