use Rattle.std.proofs.Common.{length}
use Rattle.log_dictionary.specs.TextRuns.{EndsRun}
use Rattle.log_dictionary.proofs.TextLemmas.{IsWalked}
use Rattle.log_dictionary.proofs.text.unescape.Given as goal

abbrev pub invariant-loop-byte : goal.invariant-loop-byte
invariant-loop-byte l = record { walked : IsWalked l.spelled l.rest l.bytes; ended : EndsRun l.rest }

abbrev pub decreases-loop-byte : goal.decreases-loop-byte
decreases-loop-byte l = length l.rest
