use Rattle.trace_text.proofs.Followed.{whole_line, stays_refused}
use Rattle.trace_text.proofs.laws.refused_lines_stay_refused.Goals as goal

pub returns : goal.returns
returns c = record { whole_line = whole_line; stays = stays_refused }
