use Rattle.word_ring.proofs.Events.{looks, puts, publishes, closes}
use Rattle.word_ring.proofs.laws.the_writers_steps_are_events.Goals as goal

pub returns-clause-look : goal.returns-clause-look
returns-clause-look c = looks

pub returns-clause-put : goal.returns-clause-put
returns-clause-put c = puts

pub returns-clause-publish : goal.returns-clause-publish
returns-clause-publish c = publishes

pub returns-clause-close : goal.returns-clause-close
returns-clause-close c = closes
