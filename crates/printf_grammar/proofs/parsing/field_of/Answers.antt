use Rattle.std.proofs.Common.{arith}
use Rattle.std.proofs.lemmas.Result.{err_from_is_err_and}
use Rattle.printf_grammar.specs.declared.arg_type.ArgType.TheVariants as types
use Rattle.printf_grammar.proofs.Fields.{width_breaks, precision_breaks, parts_of, conversion_breaks, field_found}
use Rattle.printf_grammar.proofs.parsing.field_of.Goals as goal

pub returns-in_err-width : goal.returns-in_err-width
returns-in_err-width c =
    let p = err_from_is_err_and c.from_residual.result c.from_residual.ensures.1 in
    rw (p.1, p.2) (width_breaks _ _ _ _ _ _ c.flags_of.ensures c.requires.few c.in_err-width.ensures)

pub returns-in_err-precision : goal.returns-in_err-precision
returns-in_err-precision c =
    let p = err_from_is_err_and c.from_residual-in_err-precision.result c.from_residual-in_err-precision.ensures.1 in
    let taken = c.arguments_of.ensures types.Width in
    rw (p.1, p.2) (precision_breaks _ _ _ _ _ _ _ _ c.flags_of.ensures c.in_ok-width.ensures.0 c.in_ok-width.ensures.1 (rw taken at c.in_err-precision.ensures))

pub returns-in_err-length : goal.returns-in_err-length
returns-in_err-length c =
    let p = err_from_is_err_and c.from_residual-in_err-length.result c.from_residual-in_err-length.ensures.1 in
    let parts = parts_of c.flags_of.ensures c.in_ok-width.ensures.0 c.in_ok-precision.ensures.0 c.modifier_of-modifier.ensures in
    rw (p.1, p.2) (conversion_breaks _ _ _ _ _ _ _ _ _ parts _ c.requires.no_percent (omega (arith, c.arguments_of.ensures types.Width, c.arguments_of-2.ensures types.Precision)) (omega (arith, c.arguments_of-2.ensures types.Precision, c.in_ok-precision.ensures.1)) c.in_err-length.ensures)

pub returns : goal.returns
returns c =
    let parts = parts_of c.flags_of.ensures c.in_ok-width.ensures.0 c.in_ok-precision.ensures.0 c.modifier_of-modifier.ensures in
    let found = c.in_ok-length.ensures in
    field_found _ _ _ _ _ _ _ _ parts _ found.0 _ _ (omega (arith, c.arguments_of.ensures types.Width, c.arguments_of-2.ensures types.Precision)) found.1 found.2
