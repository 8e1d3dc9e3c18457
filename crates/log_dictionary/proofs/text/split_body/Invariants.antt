use Rattle.std.proofs.Common.{length}
use Rattle.log_dictionary.proofs.TextRuns.{IsReadText}
use Rattle.log_dictionary.proofs.text.split_body.Given as goal

abbrev pub invariant-loop-byte : goal.invariant-loop-byte
invariant-loop-byte l = IsReadText l.body l.rest l.len l.has_nul

abbrev pub decreases-loop-byte : goal.decreases-loop-byte
decreases-loop-byte l = length l.rest
