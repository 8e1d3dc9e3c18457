use Rattle.std.proofs.Common.{rules}
use Rattle.decompressor.proofs.printing.make_long_line.Goals as goal

pub make_line_in-requires : goal.make_line_in-requires
make_line_in-requires c = (search rules, (c.requires.first, (c.requires.few, c.requires.origins)))
