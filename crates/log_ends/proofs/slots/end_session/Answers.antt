use Rattle.std.proofs.Common.{refl, ap}
use Rattle.log_ends.specs.declared.end.End.TheVariants as ends
use Rattle.log_ends.specs.Slots.{session_in}
use Rattle.log_ends.proofs.HeldEnds.{held, on_end}
use Rattle.log_ends.proofs.slots.end_session.Goals as goal

pub returns : goal.returns
returns c =
    on_end ends.Session session_in _ _ c.in-Session.session c.end.new.self _ _ (ap session_in (held _ c.in-Some.end.now c.deref_mut.result.now _ c.in-Some.ensures.value c.deref_mut.ensures.value c.in-Session.is)) refl (refl, c.end.ensures)
