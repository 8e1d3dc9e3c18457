use Rattle.std.proofs.Common.{◌≡◌, length, subst, rules, List}
use Rattle.std.specs.List.Sorted.{IsPermutation}
use Rattle.std.specs.Slice.Iter.{iter_rest}
use Rattle.trace_text.specs.declared.order.CallPlace.{CallPlace}
use Rattle.trace_text.specs.Recordings.{IsRecording}
use Rattle.trace_text.specs.Order.{places_by_writer}
use Rattle.trace_text.proofs.PlaceOrder.{none_left, places_sorted}
use Rattle.trace_text.proofs.order.places_in_order.Goals as goal

pub returns : goal.returns
returns c =
    let run = c.args.trace.now in
    let sorted = c.sort_unstable.new.self.items in
    let none : length (iter_rest c.loop-writer.calls-iterator) ≡ 0 = search rules in
    let all = none_left c.loop-writer.writer (iter_rest c.loop-writer.calls-iterator) c.loop-writer.places.items (places_by_writer run.writers) none c.loop-writer.invariant.0 in
    places_sorted run sorted (subst IsRecording c.trace.view_is c.trace.invariant.recorded) (subst (λ (places : List CallPlace). IsPermutation places sorted) all c.sort_unstable.ensures.permutation) c.sort_unstable.ensures.sorted
