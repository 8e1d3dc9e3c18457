use Rattle.std.proofs.Common.{◌↔◌, drop}
use Rattle.arg_records.specs.Reading.{IsPadded, bytes_of_words}
use Rattle.arg_records.proofs.read.holds_text.Given as goal

abbrev pub invariant-loop-word : goal.invariant-loop-word
invariant-loop-word l = IsPadded l.left (bytes_of_words (drop l.word-index l.words)) ↔ IsPadded l.len (bytes_of_words l.words)
