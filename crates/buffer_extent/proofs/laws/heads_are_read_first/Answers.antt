use Rattle.buffer_extent.proofs.lemmas.BodyLaws.{head_first, still_goes_on}
use Rattle.buffer_extent.proofs.laws.heads_are_read_first.Goals as goal

pub returns : goal.returns
returns c = record { first = head_first; more = still_goes_on }
