use Rattle.ring_machine.proofs.lemmas.Schedules.{event_keeps, event_leaves, event_number}
use Rattle.ring_machine.proofs.laws.an_event_keeps_all_rings.Goals as goal

pub returns-clause-kept : goal.returns-clause-kept
returns-clause-kept c = event_keeps

pub returns-clause-others : goal.returns-clause-others
returns-clause-others c = event_leaves

pub returns-clause-number : goal.returns-clause-number
returns-clause-number c = event_number
