use Rattle.nibble_pack.proofs.lemmas.Fronts.{packs_unsigned, spelled_rest}
use Rattle.std.proofs.Common.{ap, ◌∙◌, drop}
use Rattle.nibble_pack.proofs.pack.pack_unsigned.Goals as goal

pub returns-clause-packed : goal.returns-clause-packed
returns-clause-packed c = packs_unsigned c.args.v _ _ c.ranges.v.fits c.least_count-count.ensures.least c.to_le_bytes.ensures

pub returns-clause-others : goal.returns-clause-others
returns-clause-others c = ap (drop c.least_count-count.result) c.to_le_bytes.ensures ∙ spelled_rest c.args.v c.least_count-count.result c.least_count-count.ensures.least.holds c.least_count-count.ensures.most
