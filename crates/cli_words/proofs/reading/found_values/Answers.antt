use Rattle.std.proofs.Common.{◌∙◌}
use Rattle.cli_words.proofs.Commands.{found_are, values_or_none}
use Rattle.cli_words.proofs.reading.found_values.Goals as goal

pub returns : goal.returns
returns c =
    values_or_none c.get_strs.result c.unwrap_or_default.result _ c.unwrap_or_default.ensures
    (c.get_strs.ensures ∙ found_are c.args.found.now c.args.id.now)
