use Rattle.std.proofs.Common.{◌≡◌, ◌-◌, ◌<◌, ◌≤◌, ◌^◌, length, drop}
use Rattle.nibble_pack.specs.Bytes.{number_of_bytes}
use Rattle.arg_records.proofs.words.last_word.Given as goal

abbrev pub invariant-loop-at : goal.invariant-loop-at
invariant-loop-at l = record {
  within : l.at ≤ length l.bytes;
  word : l.word ≡ number_of_bytes (drop l.at l.bytes);
  small : l.word < 256 ^ (length l.bytes - l.at);
}

abbrev pub decreases-loop-at : goal.decreases-loop-at
decreases-loop-at l = l.at
