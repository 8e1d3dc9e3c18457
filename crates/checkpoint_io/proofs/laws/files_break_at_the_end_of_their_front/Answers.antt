use Rattle.checkpoint_io.proofs.lemmas.BreakLaws.{front_of_break, one_break, whole_or_break}
use Rattle.checkpoint_io.proofs.laws.files_break_at_the_end_of_their_front.Goals as goal

pub returns : goal.returns
returns c = record { front = front_of_break; one = one_break; whole = whole_or_break }
