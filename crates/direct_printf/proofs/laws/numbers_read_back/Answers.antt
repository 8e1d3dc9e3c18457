use Rattle.direct_printf.proofs.Plain.{plain_d_reads_back}
use Rattle.direct_printf.proofs.laws.numbers_read_back.Goals as goal

pub returns : goal.returns
returns c = plain_d_reads_back
