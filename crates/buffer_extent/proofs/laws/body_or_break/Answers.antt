use Rattle.buffer_extent.proofs.lemmas.BodyLaws.{body_or_break}
use Rattle.buffer_extent.proofs.laws.body_or_break.Goals as goal

pub returns : goal.returns
returns c = body_or_break
