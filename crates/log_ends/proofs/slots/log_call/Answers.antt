use Rattle.std.proofs.Common.{refl, ap}
use Rattle.log_ends.specs.declared.end.End.TheVariants as ends
use Rattle.log_ends.specs.Slots.{writer_in}
use Rattle.log_ends.proofs.HeldEnds.{held, on_end}
use Rattle.log_ends.proofs.slots.log_call.Goals as goal

pub returns : goal.returns
returns c =
    on_end ends.Writer writer_in _ _ c.in-Writer.writer c.log.new.self _ _ (ap writer_in (held _ c.in-Some.end.now c.deref_mut.result.now _ c.in-Some.ensures.value c.deref_mut.ensures.value c.in-Writer.is)) refl c.log.ensures
