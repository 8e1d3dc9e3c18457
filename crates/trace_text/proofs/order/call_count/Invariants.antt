use Rattle.std.proofs.Common.{◌≡◌, ◌+◌, length}
use Rattle.std.specs.Prelude.{sum_by}
use Rattle.std.specs.Slice.Iter.{iter_rest}
use Rattle.trace_text.proofs.order.call_count.Given as goal

-- the count so far and that of the writers that are left are the whole
abbrev pub invariant-loop-calls : goal.invariant-loop-calls
invariant-loop-calls l = l.count + sum_by length (iter_rest l.calls-iterator) ≡ sum_by length l.trace.writers
