use Rattle.log_ends.proofs.Printing.{all_have, text_same}
use Rattle.log_ends.proofs.laws.texts_have_limits.Goals as goal

pub returns-clause-texts : goal.returns-clause-texts
returns-clause-texts c = all_have

pub returns-clause-printed : goal.returns-clause-printed
returns-clause-printed c = text_same
