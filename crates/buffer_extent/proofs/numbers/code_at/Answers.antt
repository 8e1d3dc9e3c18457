use Rattle.std.proofs.Common.{◌/◌, sym, arith}
use Rattle.buffer_extent.proofs.lemmas.Codes.{codes_in-low, codes_in-high}
use Rattle.buffer_extent.proofs.numbers.code_at.Goals as goal

pub returns-then-place-eq0-clause-code : goal.returns-then-place-eq0-clause-code
returns-then-place-eq0-clause-code c = sym (codes_in-low c.args.bytes.now (c.args.place / 2) c.args.place (omega arith))

pub returns-else-place-eq0-clause-code : goal.returns-else-place-eq0-clause-code
returns-else-place-eq0-clause-code c = sym (codes_in-high c.args.bytes.now (c.args.place / 2) c.args.place (omega arith))
