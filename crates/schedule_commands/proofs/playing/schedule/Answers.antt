use Rattle.std.proofs.Common.{ℕ, List, Err, sym, subst}
use Rattle.schedule_text.specs.Judged.{judged}
use Rattle.schedule_text.specs.Playing.{Plays}
use Rattle.command_base.specs.Endings.{Ending}
use Rattle.command_base.specs.Effects.{CommandEffect}
use Rattle.command_base.proofs.lemmas.EffectLaws.{ended_as, nothing_came, no_bytes}
use Rattle.command_base.specs.Readings.{never}
use Rattle.command_base.specs.Scenes.{Scene, scene}
use Rattle.schedule_commands.specs.Tasks.{GivesSteps, schedule_task}
use Rattle.schedule_commands.proofs.Steps.{played_done, played_fault}
use Rattle.schedule_commands.proofs.lemmas.Soundness.{schedule_sound}
use Rattle.schedule_commands.proofs.playing.schedule.Goals as goal

pub returns-in_err-text-clause-ends : goal.returns-in_err-text-clause-ends
returns-in_err-text-clause-ends g c =
    let old : Scene = scene (g.F.Files.desk c.args.files.now) (g.O.Sink.put c.args.out.now) (g.O.Sink.faults c.args.out.now) in
    let desk = g.F.Files.desk c.read_file_front.new.files in
    subst (λ (ending : Ending). CommandEffect (schedule_task c.args.file.now) old (scene desk old.put old.faults) ending)
    (sym (ended_as _ c.in_err-text.field-0.0 c.from_residual.ensures.1))
    (nothing_came (schedule_task c.args.file.now) old desk _ (schedule_sound c.args.file.now)
    (no_bytes c.args.file.now (GivesSteps c.args.file.now) never _ _ _ c.in_err-text.ensures.unread))

pub returns-in-Ok-clause-ends : goal.returns-in-Ok-clause-ends
returns-in-Ok-clause-ends g c =
    let old : Scene = scene (g.F.Files.desk c.args.files.now) (g.O.Sink.put c.args.out.now) (g.O.Sink.faults c.args.out.now) in
    played_done c.args.file.now _ old _ c.in_ok-text.ensures.same c.in_ok-text.ensures.front _ _ (rw c.deref.ensures.value at c.in-Ok.ensures.plays)

pub returns-clause-ends : goal.returns-clause-ends
returns-clause-ends g c =
    let old : Scene = scene (g.F.Files.desk c.args.files.now) (g.O.Sink.put c.args.out.now) (g.O.Sink.faults c.args.out.now) in
    let new : Scene = scene (g.F.Files.desk c.read_file_front.new.files) (g.O.Sink.put c.play.new.out) (g.O.Sink.faults c.play.new.out) in
    subst (λ (ending : Ending). CommandEffect (schedule_task c.args.file.now) old new ending) (sym c.refusal_of.ensures)
    (played_fault c.args.file.now _ old _ c.in_ok-text.ensures.same c.in_ok-text.ensures.front _ _ c.in-Err.fault
    (subst (λ (bytes : List ℕ). Plays (judged bytes) old.put new.put old.faults new.faults (Err c.in-Err.fault)) c.deref.ensures.value c.in-Err.ensures.plays))
