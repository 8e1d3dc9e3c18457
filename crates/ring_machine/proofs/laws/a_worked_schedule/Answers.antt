use Rattle.std.proofs.Common.{refl}
use Rattle.ring_machine.specs.Streams.{onward}
use Rattle.ring_machine.proofs.laws.a_worked_schedule.Goals as goal

pub returns-clause-positions : goal.returns-clause-positions
unfolding onward
returns-clause-positions c = refl

pub returns-clause-open : goal.returns-clause-open
unfolding onward
returns-clause-open c = refl

pub returns-clause-sent : goal.returns-clause-sent
unfolding onward
returns-clause-sent c = refl

pub returns-clause-got : goal.returns-clause-got
unfolding onward
returns-clause-got c = refl

pub returns-clause-not_ended : goal.returns-clause-not_ended
unfolding onward
returns-clause-not_ended c = refl
