use Rattle.std.proofs.Common.{ap, sym, ◌∙◌}
use Rattle.std.proofs.lemmas.Int.{to_z-of_z}
use Rattle.std.specs.Int.{w64}
use Rattle.std.specs.Fmt.{signed_decimal}
use Rattle.direct_printf.proofs.Joining.{extended}
use Rattle.direct_printf.proofs.Plain.{plain_signed}
use Rattle.direct_printf.proofs.conversion.append_signed.Goals as goal

pub returns-then-not-spec-2-clause-ok : goal.returns-then-not-spec-2-clause-ok
returns-then-not-spec-2-clause-ok c =
    let plain = plain_signed c.args.padding.left c.args.padding.zeros c.args.padding.width c.args.spec.now c.args.precision c.args.value c.ranges.value c.if-padding-eq0.true c.if-is_none.ensures c.if-not-spec.true c.if-not-spec-2.true in
    let back = ap signed_decimal (to_z-of_z w64 c.args.value c.ranges.value) in
    extended c.extend_from_slice.result c.args.out.now.items c.as_bytes.result.now _ c.extend_from_slice.new.self.items c.extend_from_slice.ensures.items (c.as_bytes.ensures.value ∙ c.format.ensures.text ∙ back ∙ sym plain)
