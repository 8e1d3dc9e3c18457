use Rattle.word_ring.proofs.Events.{loads, reads, releases}
use Rattle.word_ring.proofs.laws.the_roamers_steps_are_events.Goals as goal

pub returns-clause-load : goal.returns-clause-load
returns-clause-load c = loads

pub returns-clause-read : goal.returns-clause-read
returns-clause-read c = reads

pub returns-clause-release : goal.returns-clause-release
returns-clause-release c = releases
