use Rattle.std.proofs.Common.{◌≡◌, ◌+◌, ◌-◌, ◌*◌, ◌≤◌, length, take, drop}
use Rattle.arg_records.specs.Places.{with_words}
use Rattle.arg_records.specs.Reading.{bytes_of_words}
use Rattle.buffer_extent.proofs.staged.put_words.Given as goal

abbrev pub invariant-loop-word : goal.invariant-loop-word
invariant-loop-word l = record {
  few : l.left ≤ 8 * (length l.words - l.word-index);
  places : l.end + l.left ≡ l.at + l.len;
  written : with_words l.body l.end (take l.left (bytes_of_words (drop l.word-index l.words))) ≡ with_words l.fn.body l.at (take l.len (bytes_of_words l.words));
}
