use Rattle.ring_machine.proofs.LawfulSteps.{lawful_stored, lawful_other}
use Rattle.ring_machine.proofs.laws.frames_stay_lawful.Goals as goal

pub returns-clause-store : goal.returns-clause-store
returns-clause-store c plan s word ok lawful unbarred whole = lawful_stored plan s word lawful whole

pub returns-clause-other : goal.returns-clause-other
returns-clause-other c = lawful_other
