use Rattle.std.proofs.Common.{sym, ◌∙◌}
use Rattle.roaming_consumer.proofs.lemmas.OnePlace.{beside, zip_turned}
use Rattle.log_ends.specs.Consumers.{consumer_ends}
use Rattle.log_ends.specs.Sessions.{writers_left}
use Rattle.log_ends.proofs.laws.writers_keep_their_numbers.Goals as goal

pub returns-clause-opened : goal.returns-clause-opened
returns-clause-opened c = λ messages setup session consumer opened number writer there.
    let other = beside _ (consumer_ends consumer) (writers_left session) number writer (zip_turned _ (writers_left session) (consumer_ends consumer) opened.rings) there in
    record { end = other.0; there = other.1; one_ring = sym other.2.ring.one_ring }

pub returns-clause-of_writer : goal.returns-clause-of_writer
returns-clause-of_writer c = λ old new consumer number same is. record { end = is.end; there = is.there; one_ring = is.one_ring ∙ sym same.same_pair }

pub returns-clause-of_consumer : goal.returns-clause-of_consumer
returns-clause-of_consumer c = λ old new writer number goes_on is.
    let other = beside _ (consumer_ends new) (consumer_ends old) number is.end (zip_turned _ (consumer_ends old) (consumer_ends new) goes_on) is.there in
    record { end = other.0; there = other.1; one_ring = other.2 ∙ is.one_ring }
