use Rattle.buffer_extent.proofs.lemmas.BodyLaws.{begins_with, still_body}
use Rattle.buffer_extent.proofs.laws.records_are_read_again.Goals as goal

pub returns : goal.returns
returns c = record { first = begins_with; more = still_body }
