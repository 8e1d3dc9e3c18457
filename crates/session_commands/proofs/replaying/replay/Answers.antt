use Rattle.std.proofs.Common.{sym, ap, subst, ◌∙◌, rules}
use Rattle.command_base.specs.Effects.{CommandEffect}
use Rattle.command_base.proofs.lemmas.EffectLaws.{ended_as}
use Rattle.command_base.specs.Endings.{Ending}
use Rattle.command_base.specs.Scenes.{Scene, scene}
use Rattle.nl_io.specs.Desk.{Desk}
use Rattle.session_commands.specs.Replays.{FitRings, replay_task}
use Rattle.session_commands.proofs.ReplayEnds.{replay_unread, replay_too_large, replay_lacked, replay_lost, replay_told}
use Rattle.session_commands.proofs.replaying.replay.Goals as goal

pub returns-in_err-run-clause-ends : goal.returns-in_err-run-clause-ends
returns-in_err-run-clause-ends g c =
    let old : Scene = scene (g.F.Files.desk c.args.files.now) (g.O.Sink.put c.args.out.now) (g.O.Sink.faults c.args.out.now) in
    let ends : Ending → Type 0 = λ ending. CommandEffect (replay_task c.args.trace.now c.args.log.now c.args.options.now) old (scene (g.F.Files.desk c.trace_of_file.new.files) old.put old.faults) ending in
    subst ends (sym (ended_as _ c.in_err-run.field-0.0 c.from_residual.ensures.1))
    (replay_unread c.args.trace.now c.args.log.now c.args.options.now old _ _ c.in_err-run.ensures.unread)

pub returns-then-not-fit_rings-clause-ends : goal.returns-then-not-fit_rings-clause-ends
returns-then-not-fit_rings-clause-ends g c =
    let old : Scene = scene (g.F.Files.desk c.args.files.now) (g.O.Sink.put c.args.out.now) (g.O.Sink.faults c.args.out.now) in
    let large : ¬ (FitRings c.in_ok-run.run' c.args.options.now) = search rules in
    replay_too_large c.args.trace.now c.args.log.now c.args.options.now old _ c.in_ok-run.run' c.in_ok-run.ensures.found c.in_ok-run.ensures.same large

pub returns-in_default-clause-ends : goal.returns-in_default-clause-ends
returns-in_default-clause-ends g c =
    let old : Scene = scene (g.F.Files.desk c.args.files.now) (g.O.Sink.put c.args.out.now) (g.O.Sink.faults c.args.out.now) in
    replay_lacked c.args.trace.now c.args.log.now c.args.options.now old _ c.in_ok-run.run' c.in_ok-run.ensures.found c.in_ok-run.ensures.same

pub returns-in_err-outcome-clause-ends : goal.returns-in_err-outcome-clause-ends
returns-in_err-outcome-clause-ends g c =
    let old : Scene = scene (g.F.Files.desk c.args.files.now) (g.O.Sink.put c.args.out.now) (g.O.Sink.faults c.args.out.now) in
    let ends : Ending → Type 0 = λ ending. CommandEffect (replay_task c.args.trace.now c.args.log.now c.args.options.now) old (scene (g.F.Files.desk c.write_log.new.files) old.put old.faults) ending in
    let fit : FitRings c.in_ok-run.run' c.args.options.now = search rules in
    subst ends (sym (ended_as _ c.in_err-outcome.field-0.0 c.from_residual-in_err-outcome.ensures.1))
    (replay_lost c.args.trace.now c.args.log.now c.args.options.now old _ c.in_ok-run.run' _ c.in_ok-run.ensures.found fit
    (rw (c.in_ok-run.ensures.same, c.in-Ok.ensures.ok) at c.in_err-outcome.ensures.nothing)
    (rw c.in_ok-run.ensures.same at c.write_log.ensures.only))

pub returns-clause-ends : goal.returns-clause-ends
returns-clause-ends g c =
    let logged = c.in_ok-outcome.ensures.ok in
    let fit : FitRings c.in_ok-run.run' c.args.options.now = search rules in
    replay_told _ _ c.args.trace.now c.args.log.now c.args.options.now _ _ c.in_ok-run.run' c.in_ok-outcome.outcome logged.0 _ _ _ c.in_ok-run.ensures.found fit logged.1
    (rw c.in-Ok.ensures.ok at logged.2)
    (rw c.in_ok-run.ensures.same at c.write_log.ensures.only)
    (c.in_ok-outcome.ensures.counted ∙ ap (λ (d : Desk). d.write_faults) c.in_ok-run.ensures.same)
    c.tell.ensures.printed c.tell.ensures.memory

pub returns-in_err-outcome-clause-files_others : goal.returns-in_err-outcome-clause-files_others
returns-in_err-outcome-clause-files_others g c = g.met.F.Files.rest_then _ _ _ c.trace_of_file.ensures.others c.write_log.ensures.others

pub returns-clause-files_others : goal.returns-clause-files_others
returns-clause-files_others g c = g.met.F.Files.rest_then _ _ _ c.trace_of_file.ensures.others c.write_log.ensures.others
