use Rattle.checkpoint_io.proofs.lemmas.LogLaws.{ids_below, ids_least, new_between, nothing_new}
use Rattle.checkpoint_io.proofs.laws.records_want_the_messages_up_to_their_ids.Goals as goal

pub returns-clause-below : goal.returns-clause-below
returns-clause-below c = ids_below

pub returns-clause-least : goal.returns-clause-least
returns-clause-least c = ids_least

pub returns-clause-new : goal.returns-clause-new
returns-clause-new c = new_between

pub returns-clause-known : goal.returns-clause-known
returns-clause-known c = nothing_new
