use Rattle.std.proofs.Common.{inl, inr, arith}
use borrow.Author.Tests.{eqb-true}
use Rattle.std.proofs.lemmas.Bool.Decides.{eqb_tells}
use Rattle.log_ends.proofs.Backs.{nothing_back, all_given}
use Rattle.log_ends.proofs.backlog.Backlog.is_empty.Goals as goal

pub returns : goal.returns
returns c =
    let backlog = c.args.self.now in (
      λ same. nothing_back backlog.room.items backlog.given backlog.end (eqb-true backlog.given backlog.end same),
      λ none. elim (eqb_tells backlog.given backlog.end) [
        | inl told ↦ told.0
        | inr told ↦ absurd (told.1 (all_given backlog.room.items backlog.given backlog.end backlog.within.0 (omega (arith, backlog.within.1, backlog.room.ok.0)) none))
      ],
    )
