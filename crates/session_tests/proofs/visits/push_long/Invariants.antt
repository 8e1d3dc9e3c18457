use Rattle.std.proofs.Common.{◌≡◌}
use Rattle.session_tests.proofs.visits.push_long.Given as goal

abbrev pub invariant-loop-call : goal.invariant-loop-call
invariant-loop-call l = record {
  untaken : l.end.got ≡ l.initial.end.got;
  same_plan : l.end.plan ≡ l.initial.end.plan;
}
