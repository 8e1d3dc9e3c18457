use Rattle.std.proofs.Common.{◌≡◌, [], replicate}
use Rattle.trace_text.proofs.writer_calls.WriterCalls.without_calls.Given as goal

abbrev pub invariant-loop : goal.invariant-loop
invariant-loop l = l.writers ≡ replicate l.counter []
