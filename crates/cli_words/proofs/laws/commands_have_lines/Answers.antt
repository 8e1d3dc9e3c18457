use Rattle.cli_words.proofs.Lines.{line_asks}
use Rattle.cli_words.proofs.laws.commands_have_lines.Goals as goal

pub returns : goal.returns
returns c = line_asks
