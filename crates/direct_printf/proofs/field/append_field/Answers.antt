use Rattle.std.proofs.Common.{◌≡◌, ◌+◌, ◌∙◌, ap, map, refl, w64, arith, rules}
use Rattle.std.proofs.lemmas.Int.{to_z-of_z}
use Rattle.std.proofs.lemmas.Result.{on_ok_weaker}
use Rattle.printf_grammar.specs.declared.piece.Size.TheVariants.{Absent}
use Rattle.direct_printf.specs.Fields.{stars, signed_of}
use Rattle.direct_printf.proofs.Arguments.{argument_count-args, argument_at-args, Field-appended, Field-not_padded}
use Rattle.direct_printf.proofs.field.append_field.Goals as goal

pub bounds-args-precision_at : goal.bounds-args-precision_at
bounds-args-precision_at g c = omega (arith, argument_count-args g.A.Argument.value c.args.spec.now c.args.args.now c.requires)

pub bounds-args-value_at : goal.bounds-args-value_at
bounds-args-value_at g c = omega (arith, argument_count-args g.A.Argument.value c.args.spec.now c.args.args.now c.requires, c.count_stars-precision_at.ensures.value, c.count_stars.ensures.value)

pub returns-then-eq-2-clause-ok : goal.returns-then-eq-2-clause-ok
returns-then-eq-2-clause-ok g c =
    let value = g.A.Argument.value in
    let args = c.args.args.now in
    let many = argument_count-args value c.args.spec.now args c.requires in
    let argument = argument_at-args value args 0 0 _ _ c.index-args-0.is c.arg.ensures refl (omega (arith, many)) in
    let w : c.args.spec.now.width ≡ Absent = search rules in
    let p : c.args.spec.now.precision ≡ Absent = search rules in
    on_ok_weaker c.append_converted.result (Field-not_padded c.args.spec.now (map value args) _ _ _ w p argument) c.append_converted.ensures.ok

pub returns-clause-ok : goal.returns-clause-ok
returns-clause-ok g c =
    let value = g.A.Argument.value in
    let args = c.args.args.now in
    let many = argument_count-args value c.args.spec.now args c.requires in
    let precision_at = c.count_stars-precision_at.ensures.value in
    let value_at : c.count_stars-precision_at.result + c.count_stars.result ≡ stars c.args.spec.now.width + stars c.args.spec.now.precision = omega (arith, precision_at, c.count_stars.ensures.value) in
    let first = c.signed-2.ensures ∙ ap signed_of (argument_at-args value args 0 0 _ _ c.index-args-0-2.is c.arg-3.ensures refl (omega (arith, many))) in
    let second = c.signed.ensures ∙ ap signed_of (argument_at-args value args _ _ _ _ c.index-args-precision_at.is c.arg-2.ensures precision_at (omega (arith, many, precision_at))) in
    let third = argument_at-args value args _ _ _ _ c.index-args-value_at.is c.arg-4.ensures value_at (omega (arith, many, value_at)) in
    let padding = rw (to_z-of_z w64 _ (record { sfits = c.signed-2.type_inv }), first) at c.field_padding-padding.ensures in
    let precision = rw (to_z-of_z w64 c.signed.result (record { sfits = c.signed.type_inv }), second) at c.field_precision-precision.ensures in
    on_ok_weaker _ (Field-appended c.args.spec.now (map value args) _ _ _ _ _ _ _ precision padding.width padding.left padding.zeros third) c.append_converted-2.ensures.ok
