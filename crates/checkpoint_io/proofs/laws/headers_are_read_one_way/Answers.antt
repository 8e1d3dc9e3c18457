use Rattle.checkpoint_io.proofs.ReadingForms.{one_header}
use Rattle.checkpoint_io.proofs.laws.headers_are_read_one_way.Goals as goal

pub returns : goal.returns
returns c = one_header
