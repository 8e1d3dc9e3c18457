use Rattle.std.proofs.Common.{refl}
use Rattle.log_dictionary.specs.Fields.{split_at_first}
use Rattle.log_dictionary.specs.Numbers.{number_from}
use Rattle.log_dictionary.specs.Texts.{text_from}
use Rattle.trace_text.proofs.laws.call_lines_are_read.Goals as goal

pub returns : goal.returns
unfolding split_at_first number_from text_from
returns c = record { number = refl; texts = refl }
