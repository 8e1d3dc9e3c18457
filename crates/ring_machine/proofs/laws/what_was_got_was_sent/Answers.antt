use Rattle.ring_machine.proofs.lemmas.Schedules.{got_front, got_ended, read_stream}
use Rattle.ring_machine.proofs.laws.what_was_got_was_sent.Goals as goal

pub returns-clause-front : goal.returns-clause-front
returns-clause-front c = got_front

pub returns-clause-whole : goal.returns-clause-whole
returns-clause-whole c = got_ended

pub returns-clause-read : goal.returns-clause-read
returns-clause-read c = read_stream
