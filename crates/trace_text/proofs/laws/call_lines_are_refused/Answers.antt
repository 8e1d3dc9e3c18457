use Rattle.std.proofs.Common.{refl}
use Rattle.log_dictionary.specs.Fields.{split_at_first}
use Rattle.log_dictionary.specs.Numbers.{number_from}
use Rattle.log_dictionary.specs.Texts.{text_from}
use Rattle.trace_text.proofs.laws.call_lines_are_refused.Goals as goal

pub returns : goal.returns
unfolding split_at_first number_from text_from
returns c = record {
  no_word = refl;
  no_id = refl;
  leading_zero = refl;
  large_stamp = refl;
  no_such_writer = refl;
  before_clock = refl;
  falls = refl;
  no_such_message = refl;
  missing = refl;
  one_more = refl;
  no_number = refl;
  two_spaces = refl;
  no_text = refl;
  mark_within = refl;
  out_of_range = refl;
  any_size = refl;
  nul = refl;
}
