use Rattle.std.proofs.Common.{◌≡◌, Result, sym, subst}
use Rattle.command_base.specs.declared.note.Note.{Note}
use Rattle.command_base.specs.declared.refusal.Refusal.{Refusal}
use Rattle.command_base.specs.declared.status.Status.TheVariants as statuses
use Rattle.command_base.specs.Endings.{status_of, answer_ending}
use Rattle.command_base.specs.Printing.{Tells}
use Rattle.command_base.proofs.Sayings.{note_done, tells_refusal}
use Rattle.command_base.proofs.report.say_end.Goals as goal

pub returns-in-Ok-clause-status : goal.returns-in-Ok-clause-status
returns-in-Ok-clause-status g c =
    subst (λ (answer : Result Note Refusal). statuses.Done ≡ status_of (answer_ending answer)) (sym c.in-Ok.is) (note_done c.in-Ok.note)

pub returns-in-Err-clause-told : goal.returns-in-Err-clause-told
returns-in-Err-clause-told g c =
    subst (λ (answer : Result Note Refusal). Tells (answer_ending answer) (g.E.Sink.put c.args.err.now) (g.E.Sink.put c.say.new.err) (g.E.Sink.faults c.args.err.now) (g.E.Sink.faults c.say.new.err)) (sym c.in-Err.is)
    (tells_refusal c.in-Err.refusal _ _ _ _ c.say.ensures.said)
