use Rattle.std.proofs.Common.{◌≡◌}
use Rattle.ring_tests.proofs.rings.fill.Given as goal

abbrev pub invariant-loop-stamp : goal.invariant-loop-stamp
invariant-loop-stamp g l = l.feed.writer.end.pair ≡ l.initial.feed.writer.end.pair
