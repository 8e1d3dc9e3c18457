use Rattle.std.proofs.Common.{refl, sym, subst}
use Rattle.command_base.specs.Endings.{Ending}
use Rattle.command_base.specs.Effects.{CommandEffect}
use Rattle.command_base.proofs.lemmas.EffectLaws.{ended_as, nothing_came, none_given, streamed_done, only_there}
use Rattle.command_base.proofs.lemmas.HeldLaws.{such_there}
use Rattle.command_base.specs.Scenes.{Scene, scene}
use Rattle.command_base.specs.Tasks.{text_alone}
use Rattle.trace_commands.specs.Traces.{IsRefusedAt}
use Rattle.trace_commands.specs.Texts.{direct_text}
use Rattle.trace_commands.specs.Tasks.{GivesLines, direct_task}
use Rattle.trace_commands.proofs.lemmas.Soundness.{direct_sound}
use Rattle.trace_commands.proofs.directing.direct.Goals as goal

pub returns-in_err-run-clause-ends : goal.returns-in_err-run-clause-ends
returns-in_err-run-clause-ends g c =
    let old : Scene = scene (g.F.Files.desk c.args.files.now) (g.O.Sink.put c.args.out.now) (g.O.Sink.faults c.args.out.now) in
    let desk = g.F.Files.desk c.trace_of_file.new.files in
    subst (λ (ending : Ending). CommandEffect (direct_task c.args.trace.now) old (scene desk old.put old.faults) ending)
    (sym (ended_as _ c.in_err-run.field-0.0 c.from_residual.ensures.1))
    (nothing_came (direct_task c.args.trace.now) old desk _ (direct_sound c.args.trace.now)
    (none_given c.args.trace.now (IsRefusedAt c.args.trace.now) (GivesLines c.args.trace.now) _ _ _ (λ name line cause refused. refused) c.in_err-run.ensures.unread))

pub returns-clause-ends : goal.returns-clause-ends
returns-clause-ends g c =
    let old : Scene = scene (g.F.Files.desk c.args.files.now) (g.O.Sink.put c.args.out.now) (g.O.Sink.faults c.args.out.now) in
    let desk = g.F.Files.desk c.trace_of_file.new.files in
    let read = c.in_ok-run.ensures.found in
    let there = such_there old.desk c.args.trace.now _ read in
    streamed_done (direct_task c.args.trace.now) old desk (text_alone (direct_text c.in_ok-run.run')) _ _ _
    (record { read = desk; reading = (c.in_ok-run.ensures.same, there, (c.in_ok-run.run', read, refl)); made = refl })
    tt
    (only_there c.args.trace.now old.desk there)
    c.print_run.ensures.printed
