use Rattle.checkpoint_io.proofs.lemmas.LogLaws.{stamps_within, stamp_least, no_clocks}
use Rattle.checkpoint_io.proofs.laws.records_want_the_clocks_up_to_their_stamps.Goals as goal

pub returns-clause-greatest : goal.returns-clause-greatest
returns-clause-greatest c = stamps_within

pub returns-clause-least : goal.returns-clause-least
returns-clause-least c = stamp_least

pub returns-clause-known : goal.returns-clause-known
returns-clause-known c = no_clocks
