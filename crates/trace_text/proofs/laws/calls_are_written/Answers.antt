use Rattle.std.proofs.Common.{refl}
use Rattle.std.specs.Fmt.{digits}
use Rattle.log_dictionary.specs.Fields.{split_at_first}
use Rattle.log_dictionary.specs.Numbers.{number_from}
use Rattle.log_dictionary.specs.Texts.{text_from}
use Rattle.stamp_merge.specs.Ordering.{insert_by, in_order_by}
use Rattle.trace_text.proofs.laws.calls_are_written.Goals as goal

pub returns : goal.returns
unfolding digits split_at_first number_from text_from insert_by in_order_by
returns c = record { read = refl; written = refl; in_order = refl }
