use Rattle.std.proofs.Common.{◌≡◌, ◌++◌, take, drop}
use Rattle.arg_records.specs.Reading.{bytes_of_words}
use Rattle.arg_records.proofs.read.copy_text.Given as goal

abbrev pub invariant-loop-word : goal.invariant-loop-word
invariant-loop-word l = l.text ++ take l.left (bytes_of_words (drop l.word-index l.words)) ≡ take l.len (bytes_of_words l.words)
