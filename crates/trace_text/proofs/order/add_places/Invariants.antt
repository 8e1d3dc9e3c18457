use Rattle.std.proofs.Common.{◌≡◌, ◌+◌, ◌++◌, length, map}
use Rattle.std.specs.List.{enumerate_from}
use Rattle.std.specs.Slice.Iter.{iter_rest}
use Rattle.trace_text.specs.Order.{place_in, writer_places}
use Rattle.trace_text.proofs.order.add_places.Given as goal

-- the places so far and those of the calls that are left are all places
abbrev pub invariant-loop-ordinal : goal.invariant-loop-ordinal
invariant-loop-ordinal l =
    (l.places.items ++ map (place_in l.writer) (enumerate_from l.ordinal (iter_rest l.call-iterator)) ≡ l.initial.places.items ++ writer_places (l.writer, l.calls)) × (l.ordinal + length (iter_rest l.call-iterator) ≡ length l.calls)
