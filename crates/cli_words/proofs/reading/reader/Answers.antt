use Rattle.std.proofs.Common.{◌≡◌, ◌∙◌, [], get_or, rules, ap}
use Rattle.clap.specs.Words.{app_of, rule_of, with_rule}
use Rattle.cli_words.specs.Apps.{names_argument, option_argument}
use Rattle.cli_words.specs.declared.table.SessionOption.{SessionOption}
use Rattle.cli_words.proofs.Tables.{names_viewed}
use Rattle.cli_words.proofs.Answers.{all_taken, one_more_taken, plain_is}
use Rattle.cli_words.proofs.reading.reader.Goals as goal

pub loop-option-init : goal.loop-option-init
loop-option-init c =
    let names : rule_of c.action-names.result ≡ names_argument = search rules in
    c.in_ok-command.ensures.shape (search rules)
    ∙ ap (with_rule (app_of c.disable_help_flag.result)) names
    ∙ plain_is c.new-2.result c.no_binary_name.result c.disable_help_flag.result
    c.new-2.ensures.app c.no_binary_name.ensures c.disable_help_flag.ensures

pub loop-option-preserved : goal.loop-option-preserved
loop-option-preserved c =
    let options = c.row_options-option-items.result.now in
    let d : SessionOption = record {
      name = record { ref_ptr = (0, 0); now = [] };
      shown = record { ref_ptr = (0, 0); now = [] };
    } in
    let rule : rule_of c.action-argument.result ≡ option_argument (get_or options c.loop-option.option-index d).name.now = search rules in
    one_more_taken (λ option. option.name.now) options c.loop-option.option-index d (app_of c.loop-option.command)
    (app_of c.in_ok-command-2.command) (rule_of c.action-argument.result) c.loop-option-test.true
    (c.in_ok-command-2.ensures.shape (search rules)) c.loop-option.invariant rule

pub returns : goal.returns
returns c =
    all_taken (λ option. option.name.now) c.row_options-option-items.result.now c.loop-option.option-index _
    (app_of c.loop-option.command) c.loop-option.invariant c.loop-option.auto.option-index-end c.loop-option-test.false
    (names_viewed c.row_options-option-items.result.now _ c.row_options-option-items.ensures)
