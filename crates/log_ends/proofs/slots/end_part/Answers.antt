use Rattle.std.proofs.Common.{refl, ap}
use Rattle.log_ends.specs.declared.end.End.TheVariants as ends
use Rattle.log_ends.specs.Slots.{consumer_in}
use Rattle.log_ends.proofs.HeldEnds.{held, on_end}
use Rattle.log_ends.proofs.slots.end_part.Goals as goal

pub returns : goal.returns
returns c =
    on_end ends.Consumer consumer_in _ _ c.in-Consumer.consumer c.next_part.new.self _ _ (ap consumer_in (held _ c.in-Some.end.now c.deref_mut.result.now _ c.in-Some.ensures.value c.deref_mut.ensures.value c.in-Consumer.is)) refl c.next_part.ensures
