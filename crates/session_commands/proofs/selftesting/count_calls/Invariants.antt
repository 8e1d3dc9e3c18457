use Rattle.std.proofs.Common.{◌≡◌, ◌+◌, ◌≤◌, length}
use Rattle.std.specs.Slice.Iter.{iter_rest}
use Rattle.session_commands.specs.Selftests.{severity_count}
use Rattle.session_commands.proofs.selftesting.count_calls.Given as goal

-- the count so far and that of the calls that are left are the whole
abbrev pub invariant-loop-call : goal.invariant-loop-call
invariant-loop-call l = record {
  counted : l.count + severity_count l.dictionary l.severity (iter_rest l.call-iterator) ≡ severity_count l.dictionary l.severity l.calls;
  within : l.count + length (iter_rest l.call-iterator) ≤ length l.calls;
}
