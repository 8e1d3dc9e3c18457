use Rattle.ring_machine.proofs.lemmas.Schedules.{schedule_ok, schedule_front, schedule_ended}
use Rattle.ring_machine.proofs.laws.every_schedule.Goals as goal

pub returns-clause-right : goal.returns-clause-right
returns-clause-right c = schedule_ok

pub returns-clause-front : goal.returns-clause-front
returns-clause-front c = schedule_front

pub returns-clause-whole : goal.returns-clause-whole
returns-clause-whole c = schedule_ended
