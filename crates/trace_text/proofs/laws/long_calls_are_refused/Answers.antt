use Rattle.trace_text.proofs.LongLines.{long_text, long_frame, short_frame}
use Rattle.trace_text.proofs.laws.long_calls_are_refused.Goals as goal

pub returns : goal.returns
returns c = record { long_text = long_text; long_frame = long_frame; short_frame = short_frame }
