use Rattle.std.proofs.Common.{◌∙◌, Some, None, ap, sym, codes, map}
use Rattle.std.specs.Prelude.{option_map, option_and_then}
use Rattle.std.proofs.lemmas.Result.{IfOk-weaker}
use Rattle.cli_words.specs.Commands.{command_with, made}
use Rattle.cli_words.specs.CommandViews.{value_is}
use Rattle.cli_words.specs.TableViews.{row_is}
use Rattle.cli_words.specs.Uses.{found_values}
use Rattle.cli_words.proofs.Commands.{made_found}
use Rattle.cli_words.proofs.command.found_command.Goals as goal

pub returns-in_default : goal.returns-in_default
returns-in_default c =
    ap (option_and_then (command_with (row_is c.args.row.now) (found_values c.args.found.now (codes "names"))))
    c.in_default.ensures

pub returns-in-Some-2 : goal.returns-in-Some-2
returns-in-Some-2 c =
    IfOk-weaker c.made.result _ _ (λ command is. is
    ∙ ap (λ values. made c.args.row.now.form (map value_is values) c.in-Some.options) c.as_slice.ensures.value
    ∙ made_found (row_is c.args.row.now) (found_values c.args.found.now)
    (map (λ word. word.now) c.found_values.result.now) c.in-Some.options (Some (map value_is c.in-Some-2.values.items))
    c.in-Some.ensures (ap (λ found. option_map (λ values. map value_is values.items) found) (sym c.in-Some-2.is)
    ∙ c.in_ok-values.ensures) c.found_values.ensures) c.made.ensures

pub returns-in-None : goal.returns-in-None
returns-in-None c =
    made_found (row_is c.args.row.now) (found_values c.args.found.now)
    (map (λ word. word.now) c.found_values.result.now) c.in-Some.options None c.in-Some.ensures
    (ap (λ found. option_map (λ values. map value_is values.items) found) (sym c.in-None.is) ∙ c.in_ok-values.ensures)
    c.found_values.ensures
