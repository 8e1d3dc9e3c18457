use Rattle.log_dictionary.proofs.lemmas.TimeLaws.{Time-before, Time-since}
use Rattle.log_dictionary.proofs.laws.later_clocks_count_from_their_ticks.Goals as goal

pub returns : goal.returns
returns c = record { before = Time-before; since = Time-since }
