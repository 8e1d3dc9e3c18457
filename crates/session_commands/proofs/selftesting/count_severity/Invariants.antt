use Rattle.std.proofs.Common.{◌≡◌, ◌+◌, ◌≤◌, length}
use Rattle.std.specs.Prelude.{sum_by}
use Rattle.std.specs.Slice.Iter.{iter_rest}
use Rattle.session_commands.specs.Selftests.{severity_count}
use Rattle.session_commands.proofs.selftesting.count_severity.Given as goal

-- the count so far and that of the writers that are left are the whole
abbrev pub invariant-loop-calls : goal.invariant-loop-calls
invariant-loop-calls l = record {
  counted : l.count + sum_by (severity_count l.trace.dictionary l.severity) (iter_rest l.calls-iterator) ≡ sum_by (severity_count l.trace.dictionary l.severity) l.trace.writers;
  within : l.count + sum_by length (iter_rest l.calls-iterator) ≤ sum_by length l.trace.writers;
}
