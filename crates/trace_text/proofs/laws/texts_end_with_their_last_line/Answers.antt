use Rattle.trace_text.proofs.Followed.{front_lacks_end, refused_behind_end}
use Rattle.trace_text.proofs.laws.texts_end_with_their_last_line.Goals as goal

pub returns : goal.returns
returns c = record { cut_off = front_lacks_end; more = refused_behind_end }
