use Rattle.std.proofs.Common.{refl, ap}
use Rattle.std.specs.Prelude.{Some}
use Rattle.log_ends.specs.declared.end.End.TheVariants as ends
use Rattle.log_ends.specs.Slots.{session_in}
use Rattle.log_ends.proofs.HeldEnds.{held, on_end}
use Rattle.log_ends.proofs.slots.give_writer.Goals as goal

pub returns-in-Ok-clause-empty : goal.returns-in-Ok-clause-empty
returns-in-Ok-clause-empty c =
    λ empty. on_end ends.Session session_in _ _ c.in-Session.session c.next_writer.new.self _ _ (ap session_in (held _ c.in-Some.end.now c.deref_mut.result.now _ c.in-Some.ensures.value c.deref_mut.ensures.value c.in-Session.is)) refl record {
      given = (c.in-Ok.ensures.given.0, ap Some c.in-Ok.ensures.given.1, c.in-Ok.ensures.given.2, c.in-Ok.ensures.given.3, c.in-Ok.ensures.given.4, c.in-Ok.ensures.given.5);
      none = tt;
      spent = (λ is. absurd (cc is), λ spent. absurd (cc (c.in-Ok.ensures.spent.1 spent)));
    }

pub returns-in-Err-clause-empty : goal.returns-in-Err-clause-empty
returns-in-Err-clause-empty c =
    λ empty. on_end ends.Session session_in _ _ c.in-Session.session c.next_writer.new.self _ _ (ap session_in (held _ c.in-Some.end.now c.deref_mut.result.now _ c.in-Some.ensures.value c.deref_mut.ensures.value c.in-Session.is)) refl record {
      given = tt;
      none = (empty, c.in-Err.ensures.none);
      spent = (λ is. c.in-Err.ensures.spent.0 (cc is), λ spent. cc (c.in-Err.ensures.spent.1 spent));
    }
