use Rattle.trace_text.specs.Dictionaries.{DictionaryText, DictionaryBreak}
use Rattle.trace_text.proofs.OnlyAnswers.{only_one}
use Rattle.trace_text.proofs.lemmas.OneDictionary.{dictionaries_apart}
use Rattle.trace_text.proofs.dictionaries.read_dictionary.Goals as goal

pub returns-clause-only : goal.returns-clause-only
returns-clause-only c = only_one (DictionaryText c.args.text.now) (DictionaryBreak c.args.text.now) (dictionaries_apart c.args.text.now) c.dictionary_of.result c.dictionary_of.ensures.answer
