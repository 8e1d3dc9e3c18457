use Rattle.trace_text.proofs.DictionaryLaws.{trace_front}
use Rattle.trace_text.proofs.laws.traces_begin_with_dictionaries.Goals as goal

pub returns : goal.returns
returns c = trace_front
