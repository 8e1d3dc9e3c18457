use Rattle.std.proofs.Common.{sym, ◌∙◌}
use Rattle.direct_printf.proofs.Joining.{extended}
use Rattle.direct_printf.proofs.Plain.{plain_unsigned}
use Rattle.direct_printf.proofs.conversion.append_unsigned.Goals as goal

pub returns-then-is_none-clause-ok : goal.returns-then-is_none-clause-ok
returns-then-is_none-clause-ok c =
    let plain = plain_unsigned c.args.padding.left c.args.padding.zeros c.args.padding.width c.args.precision c.args.value c.ranges.value.fits c.if-padding-eq0.true c.if-is_none.ensures in
    extended c.extend_from_slice.result c.args.out.now.items c.as_bytes-spelled.result.now _ c.extend_from_slice.new.self.items c.extend_from_slice.ensures.items (c.as_bytes-spelled.ensures.value ∙ c.format.ensures.text ∙ sym plain)
