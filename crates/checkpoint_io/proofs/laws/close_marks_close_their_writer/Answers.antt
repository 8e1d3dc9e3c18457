use Rattle.checkpoint_io.proofs.lemmas.ValidityLaws.{closed_among, open_without_mark}
use Rattle.checkpoint_io.proofs.laws.close_marks_close_their_writer.Goals as goal

pub returns-clause-closed : goal.returns-clause-closed
returns-clause-closed c = closed_among

pub returns-clause-open : goal.returns-clause-open
returns-clause-open c = open_without_mark
