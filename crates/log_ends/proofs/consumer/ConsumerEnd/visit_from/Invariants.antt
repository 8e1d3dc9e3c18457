use Rattle.std.proofs.Common.{◌≡◌}
use Rattle.log_ends.proofs.Passing.{IsPassing}
use Rattle.log_ends.proofs.consumer.ConsumerEnd.visit_from.Given as goal

abbrev pub invariant-loop-writer : goal.invariant-loop-writer
invariant-loop-writer l = record {
  passing : IsPassing l.initial.self l.first l.writer l.all_ended l.self;
  counted : l.writers ≡ l.initial.self.writers;
}
