use Rattle.schedule_text.proofs.lemmas.Deciding.{long_step, long_rings}
use Rattle.schedule_text.proofs.laws.long_lines_say_nothing.Goals as goal

pub returns : goal.returns
returns c = record { steps = long_step; rings = long_rings }
