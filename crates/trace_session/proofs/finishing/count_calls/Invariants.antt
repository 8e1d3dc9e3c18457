use Rattle.std.proofs.Common.{◌≡◌, List, ◌++◌}
use Rattle.std.specs.Slice.Iter.{iter_rest}
use Rattle.arg_records.specs.declared.call.Call.{Call}
use Rattle.trace_session.specs.Drops.{call_count}
use Rattle.trace_session.proofs.finishing.count_calls.Given as goal

-- the count is that of the calls that were seen
abbrev pub invariant-loop-calls : goal.invariant-loop-calls
invariant-loop-calls l = (seen : List (List Call)) × (seen ++ iter_rest l.calls-iterator ≡ l.writers) × (l.count ≡ call_count seen)
