use Rattle.std.proofs.Common.{◌≡◌, ◌+◌, ◌/◌, length}
use Rattle.arg_records.specs.Frames.{words_of_bytes}
use Rattle.arg_records.specs.Places.{with_words}
use Rattle.arg_records.proofs.words.put_bytes.Given as goal

abbrev pub invariant-loop-front : goal.invariant-loop-front
invariant-loop-front l = record {
  places : l.end + (length l.rest + 7) / 8 ≡ l.at + (length l.bytes + 7) / 8;
  left : with_words l.into l.end (words_of_bytes l.rest) ≡ with_words l.fn.into l.at (words_of_bytes l.bytes);
}

abbrev pub decreases-loop-front : goal.decreases-loop-front
decreases-loop-front l = length l.rest
