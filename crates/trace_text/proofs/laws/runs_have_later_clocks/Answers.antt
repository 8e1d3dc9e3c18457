use Rattle.trace_text.proofs.Worked.{two_clocks_read, two_clocks_written}
use Rattle.trace_text.proofs.laws.runs_have_later_clocks.Goals as goal

pub returns : goal.returns
returns c = record { read = two_clocks_read; written = two_clocks_written }
