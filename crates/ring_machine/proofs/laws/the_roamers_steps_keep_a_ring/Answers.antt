use Rattle.ring_machine.specs.declared.steps.StepKind.TheVariants as steps
use Rattle.ring_machine.proofs.lemmas.Schedules.{RingOk-after}
use Rattle.ring_machine.proofs.laws.the_roamers_steps_keep_a_ring.Goals as goal

pub returns-clause-load : goal.returns-clause-load
returns-clause-load c s = RingOk-after s steps.Load

pub returns-clause-read : goal.returns-clause-read
returns-clause-read c s = RingOk-after s steps.Read

pub returns-clause-release : goal.returns-clause-release
returns-clause-release c s = RingOk-after s steps.Release
