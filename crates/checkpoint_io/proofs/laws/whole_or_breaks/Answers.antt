use Rattle.checkpoint_io.proofs.lemmas.BreakLaws.{whole_or_break}
use Rattle.checkpoint_io.proofs.lemmas.Wholeness.{whole_or_breaks}
use Rattle.checkpoint_io.proofs.laws.whole_or_breaks.Goals as goal

pub returns : goal.returns
returns c = record { either = whole_or_breaks; not_both = λ bytes header blocks. whole_or_break header blocks bytes }
