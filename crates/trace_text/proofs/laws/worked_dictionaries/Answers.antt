use Rattle.std.proofs.Common.{refl, inl}
use Rattle.trace_text.proofs.DictionaryWorked.{none, one, empty, no_line_feed, other_version, other_id, other_line, last_line_cut}
use Rattle.trace_text.proofs.laws.worked_dictionaries.Goals as goal

pub returns : goal.returns
returns c = record {
  no_message = none;
  one_message = one;
  too_large = λ bytes long. inl (long, refl, refl);
  empty = empty;
  no_line_feed = no_line_feed;
  other_version = other_version;
  other_id = other_id;
  other_line = other_line;
  last_line_cut = last_line_cut;
}
