use Rattle.ring_machine.specs.declared.steps.StepKind.TheVariants as steps
use Rattle.ring_machine.proofs.lemmas.Schedules.{RingOk-after}
use Rattle.ring_machine.proofs.laws.the_writers_steps_keep_a_ring.Goals as goal

pub returns-clause-look : goal.returns-clause-look
returns-clause-look c s = RingOk-after s steps.Look

pub returns-clause-store : goal.returns-clause-store
returns-clause-store c s word = RingOk-after s (steps.Store word)

pub returns-clause-skip : goal.returns-clause-skip
returns-clause-skip c s = RingOk-after s steps.Skip

pub returns-clause-publish : goal.returns-clause-publish
returns-clause-publish c s = RingOk-after s steps.Publish

pub returns-clause-close : goal.returns-clause-close
returns-clause-close c s = RingOk-after s steps.Close
