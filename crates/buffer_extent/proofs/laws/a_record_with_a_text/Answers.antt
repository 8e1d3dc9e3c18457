use Rattle.buffer_extent.proofs.Worked.{text_record}
use Rattle.buffer_extent.proofs.laws.a_record_with_a_text.Goals as goal

pub returns : goal.returns
returns c = text_record
