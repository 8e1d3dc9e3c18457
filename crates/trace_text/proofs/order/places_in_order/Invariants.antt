use Rattle.std.proofs.Common.{◌≡◌, ◌≤◌, ◌+◌, ◌++◌, length}
use Rattle.std.specs.List.{flat_map, enumerate_from}
use Rattle.std.specs.Slice.Iter.{iter_rest}
use Rattle.std.specs.Prelude.{sum_by}
use Rattle.trace_text.specs.Order.{writer_places, places_by_writer}
use Rattle.trace_text.specs.declared.trace.TheConstants.{MAX_CALLS}
use Rattle.trace_text.proofs.order.places_in_order.Given as goal

-- the places so far and those of the writers that are left are all places
abbrev pub invariant-loop-writer : goal.invariant-loop-writer
invariant-loop-writer l =
    (l.places.items ++ flat_map writer_places (enumerate_from l.writer (iter_rest l.calls-iterator)) ≡ places_by_writer l.trace.writers) × (l.writer + length (iter_rest l.calls-iterator) ≡ length l.trace.writers) × (sum_by length (iter_rest l.calls-iterator) ≤ MAX_CALLS)
