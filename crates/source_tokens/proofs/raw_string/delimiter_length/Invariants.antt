use Rattle.std.proofs.Common.{◌≡◌, ◌+◌, length, drop}
use Rattle.source_tokens.specs.RawStrings.{delimiter_of}
use Rattle.source_tokens.proofs.raw_string.delimiter_length.Given as goal

abbrev pub invariant-loop-place : goal.invariant-loop-place
invariant-loop-place l = length (delimiter_of l.raw) ≡ l.place + length (delimiter_of (drop l.place l.raw))
