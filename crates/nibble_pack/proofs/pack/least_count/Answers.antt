use Rattle.nibble_pack.proofs.lemmas.Counts.{least_count_is}
use Rattle.nibble_pack.proofs.pack.least_count.Goals as goal

pub returns-clause-least : goal.returns-clause-least
returns-clause-least c = least_count_is c.args.n c.ranges.n.fits
