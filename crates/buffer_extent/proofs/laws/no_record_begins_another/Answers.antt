use Rattle.buffer_extent.proofs.lemmas.BodyLaws.{SpellsRecord-unique}
use Rattle.buffer_extent.proofs.laws.no_record_begins_another.Goals as goal

pub returns : goal.returns
returns c = SpellsRecord-unique
