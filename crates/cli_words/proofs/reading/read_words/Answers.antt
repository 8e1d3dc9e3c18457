use Rattle.cli_words.specs.Commands.{texts_of}
use Rattle.cli_words.specs.Table.{options_taken}
use Rattle.cli_words.specs.TableViews.{row_is}
use Rattle.cli_words.proofs.Commands.{are_plain}
use Rattle.cli_words.proofs.Answers.{are_texts, found_by, refused_by}
use Rattle.cli_words.proofs.reading.read_words.Goals as goal

pub returns : goal.returns
returns c =
    refused_by _ (options_taken (row_is c.args.row.now)) (texts_of c.args.words.now) c.in-Err.error c.in_ok-reader.ensures
    (are_plain c.args.row.now.has_options) (are_texts c.args.words.now) c.in-Err.ensures.kinds
    (λ e. c.in_default.not-OutOfMemory (cc))

pub returns-in-Ok : goal.returns-in-Ok
returns-in-Ok c =
    found_by _ (options_taken (row_is c.args.row.now)) (texts_of c.args.words.now) c.in-Ok.matches c.in_ok-reader.ensures
    (are_plain c.args.row.now.has_options) (are_texts c.args.words.now) c.in-Ok.ensures.matches c.in-Ok.ensures.kinds
