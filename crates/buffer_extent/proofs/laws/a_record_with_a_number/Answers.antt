use Rattle.buffer_extent.proofs.Worked.{number_record}
use Rattle.buffer_extent.proofs.laws.a_record_with_a_number.Goals as goal

pub returns : goal.returns
returns c = number_record
