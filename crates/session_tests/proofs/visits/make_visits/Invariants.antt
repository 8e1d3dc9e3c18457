use Rattle.std.proofs.Common.{◌≡◌, true, length}
use Rattle.roaming_consumer.specs.Roamers.{ends_of, is_begun, ArePlanned}
use Rattle.session_tests.proofs.visits.make_visits.Given as goal

abbrev pub invariant-loop-visit : goal.invariant-loop-visit
invariant-loop-visit l = record {
  count : length (ends_of l.roamer) ≡ 1;
  planned : ArePlanned (λ end. end.plan) l.roamer;
  begun : is_begun l.roamer ≡ true;
}
