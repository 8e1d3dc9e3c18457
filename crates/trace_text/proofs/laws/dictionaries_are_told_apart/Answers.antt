use Rattle.trace_text.proofs.DictionaryLaws.{dictionary_or_not}
use Rattle.trace_text.proofs.lemmas.OneDictionary.{dictionaries_apart}
use Rattle.trace_text.proofs.laws.dictionaries_are_told_apart.Goals as goal

pub returns : goal.returns
returns c = record {
  one_holds = dictionary_or_not;
  not_both = λ bytes. (dictionaries_apart bytes).not_both;
  one_dictionary = λ bytes. (dictionaries_apart bytes).one_value;
  one_break = λ bytes. (dictionaries_apart bytes).one_refusal;
}
