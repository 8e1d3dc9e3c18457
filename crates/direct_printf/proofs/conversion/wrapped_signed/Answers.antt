use Rattle.std.proofs.Common.{w8, arith}
use Rattle.std.specs.Int.{w16}
use Rattle.direct_printf.proofs.Wrapping.{int_wrap-rest}
use Rattle.direct_printf.proofs.conversion.wrapped_signed.Goals as goal

pub returns-in-HH : goal.returns-in-HH
returns-in-HH c =
    rw c.in-HH.is (int_wrap-rest w8 c.args.value c.rem_euclid.result c.cast_signed.result c.ranges.value (record { sfits = c.rem_euclid.type_inv }) (record { sfits = omega (arith, c.cast_signed.type_inv) }) c.rem_euclid.ensures.value c.cast_signed.ensures)

pub returns-in-H : goal.returns-in-H
returns-in-H c =
    rw c.in-H.is (int_wrap-rest w16 c.args.value c.rem_euclid-in-H.result c.cast_signed-in-H.result c.ranges.value (record { sfits = c.rem_euclid-in-H.type_inv }) (record { sfits = omega (arith, c.cast_signed-in-H.type_inv) }) c.rem_euclid-in-H.ensures.value c.cast_signed-in-H.ensures)
