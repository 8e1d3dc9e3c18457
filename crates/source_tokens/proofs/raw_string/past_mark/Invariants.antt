use Rattle.std.proofs.Common.{take}
use Rattle.source_tokens.specs.Reading.{ReadsUnspliced}
use Rattle.source_tokens.proofs.raw_string.past_mark.Given as goal

abbrev pub invariant-loop-letter : goal.invariant-loop-letter
invariant-loop-letter l = ReadsUnspliced l.bytes (take l.letter-index l.prefix) l.rest
