use Rattle.trace_text.proofs.DictionaryLaws.{one_too_many}
use Rattle.trace_text.proofs.laws.full_dictionaries_take_no_more.Goals as goal

pub returns : goal.returns
returns c = one_too_many
