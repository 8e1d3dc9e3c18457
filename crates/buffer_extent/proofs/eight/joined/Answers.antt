use Rattle.std.proofs.Common.{◌∙◌, ap, arith}
use Rattle.std.specs.Int.{w64, to_le_bytes}
use Rattle.buffer_extent.proofs.Joining.{joined_fits, joined_bytes}
use Rattle.buffer_extent.proofs.eight.joined.Goals as goal

pub overflow_add-result : goal.overflow_add-result
overflow_add-result c = record { fits = omega (arith, c.above.ensures, c.above-2.ensures, joined_fits c.args.front c.args.back c.args.len c.ranges.front.fits c.ranges.back.fits c.requires) }

pub returns : goal.returns
returns c = ap (to_le_bytes w64) (omega (arith, c.above.ensures, c.above-2.ensures)) ∙ joined_bytes c.args.front c.args.back c.args.len c.ranges.front.fits c.ranges.back.fits c.requires
