use Rattle.std.proofs.Common.{◌∙◌, Some, None}
use Rattle.std.proofs.lemmas.Result.{IfOk-weaker}
use Rattle.cli_words.specs.Commands.{texts_of}
use Rattle.cli_words.specs.TableViews.{row_is}
use Rattle.cli_words.proofs.Commands.{command_from, none_from}
use Rattle.cli_words.proofs.Lawful.{result_lawful}
use Rattle.cli_words.proofs.command.command_of.Goals as goal

pub returns-in-Some-2-clause-asked : goal.returns-in-Some-2-clause-asked
returns-in-Some-2-clause-asked c =
    IfOk-weaker c.found_command.result _ _ (λ command is. is
    ∙ command_from c.args.words.now c.in-Some.rest.now c.in-Some.word.now c.as_str.result.now
    (row_is c.in-Some-row_named.row.now) (Some c.in-Some-2.found) _ c.in-Some.ensures.cases.0 c.as_str.ensures.value
    c.in-Some-row_named.ensures c.in-Some-2.is c.in_ok-found.ensures) c.found_command.ensures

pub returns-in-Some-2-clause-lawful : goal.returns-in-Some-2-clause-lawful
returns-in-Some-2-clause-lawful c =
    result_lawful (texts_of c.args.words.now) c.found_command.result (returns-in-Some-2-clause-asked c)

pub returns-in-None-clause-asked : goal.returns-in-None-clause-asked
returns-in-None-clause-asked c =
    command_from c.args.words.now c.in-Some.rest.now c.in-Some.word.now c.as_str.result.now
    (row_is c.in-Some-row_named.row.now) None _ c.in-Some.ensures.cases.0 c.as_str.ensures.value
    c.in-Some-row_named.ensures c.in-None.is c.in_ok-found.ensures

pub returns-in_default-row_named-clause-asked : goal.returns-in_default-row_named-clause-asked
returns-in_default-row_named-clause-asked c =
    none_from c.args.words.now c.in-Some.rest.now c.in-Some.word.now c.as_str.result.now
    c.in-Some.ensures.cases.0 c.as_str.ensures.value c.in_default-row_named.ensures
