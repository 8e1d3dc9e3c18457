use Rattle.std.proofs.Common.{◌≡◌}
use Rattle.ring_tests.proofs.rings.log_all.Given as goal

abbrev pub invariant-loop-number : goal.invariant-loop-number
invariant-loop-number l = l.feed.writer.end.pair ≡ l.initial.feed.writer.end.pair
