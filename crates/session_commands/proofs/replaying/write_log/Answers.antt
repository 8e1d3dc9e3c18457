use Rattle.std.proofs.Common.{sym, subst}
use Rattle.std.specs.Arc.{arc_value}
use Rattle.nl_io.proofs.lemmas.DeskLaws.{Creates-made, SameButHeld-made, written}
use Rattle.command_base.specs.Endings.{Ending}
use Rattle.session_commands.specs.Replays.{GivesNoLog}
use Rattle.session_commands.proofs.ReplayEnds.{created_holds, unless_ok, not_created, has_written, not_finished, not_run}
use Rattle.session_commands.proofs.replaying.write_log.Goals as goal

pub log_calls-logged-requires-clause-made : goal.log_calls-logged-requires-clause-made
log_calls-logged-requires-clause-made g c = λ κs within. Creates-made _ _ _ _ c.in-Ok.ensures.created

pub finish-requires : goal.finish-requires
finish-requires g c = SameButHeld-made _ _ _ (Creates-made _ _ _ _ c.in-Ok.ensures.created) c.log_calls-logged.ensures.same

pub returns-in_default-clause-nothing : goal.returns-in_default-clause-nothing
returns-in_default-clause-nothing g c = not_created _ _ _ _ _ (unless_ok c.create.result c.create.ensures.err c.in_default.not-Ok) (unless_ok c.create.result c.create.ensures.cause c.in_default.not-Ok)

pub returns-in_default-finish-clause-nothing : goal.returns-in_default-finish-clause-nothing
returns-in_default-finish-clause-nothing g c =
    let logged = c.log_calls-logged.ensures in
    let wrote = has_written _ _ _ c.args.options.now _ _ _ c.log_calls-logged.result logged.ok logged.sized logged.unbegun logged.cut in
    not_finished _ _ _ _ _ _ _ _ c.in-Ok.ensures.created logged.same logged.count wrote c.finish.ensures.finished (unless_ok c.finish.result c.finish.ensures.cause c.in_default-finish.not-Ok)

pub returns-in_default-finish-clause-only : goal.returns-in_default-finish-clause-only
returns-in_default-finish-clause-only g c = written _ _ _ _ _ _ c.in-Ok.ensures.created c.log_calls-logged.ensures.same c.log_calls-logged.ensures.count c.finish.ensures.finished

pub returns-in-Ok-logged-clause-only : goal.returns-in-Ok-logged-clause-only
returns-in-Ok-logged-clause-only g c = written _ _ _ _ _ _ c.in-Ok.ensures.created c.log_calls-logged.ensures.same c.log_calls-logged.ensures.count c.finish.ensures.finished

pub returns-in-Err-clause-only : goal.returns-in-Err-clause-only
returns-in-Err-clause-only g c = written _ _ _ _ _ _ c.in-Ok.ensures.created c.log_calls-logged.ensures.same c.log_calls-logged.ensures.count c.finish.ensures.finished

pub returns-in-Ok-logged-clause-ok : goal.returns-in-Ok-logged-clause-ok
returns-in-Ok-logged-clause-ok g c =
    let logged = c.in-Ok-logged.ensures.ok in
    (logged.0, created_holds _ _ logged.0 _ _ _ _ c.in-Ok.ensures.created c.log_calls-logged.ensures.same c.log_calls-logged.ensures.count logged.1 c.finish.ensures.finished, logged.2)

pub returns-in-Err-clause-nothing : goal.returns-in-Err-clause-nothing
returns-in-Err-clause-nothing g c =
    let logged = c.log_calls-logged.ensures in
    let wrote = has_written _ _ _ c.args.options.now _ _ _ c.log_calls-logged.result logged.ok logged.sized logged.unbegun logged.cut in
    subst (λ (ending : Ending). GivesNoLog (arc_value c.args.run.now) c.args.options.now c.args.log.now (g.F.Files.desk c.args.files.now) (g.F.Files.desk c.finish.new.self) ending) (sym c.refusal_of.ensures)
    (not_run _ _ _ _ _ _ _ _ c.in-Err.fault c.in-Ok.ensures.created logged.same logged.count wrote c.finish.ensures.finished c.in-Ok-finish.ensures.counted c.in-Err.ensures.sized c.in-Err.ensures.unbegun c.in-Err.ensures.cause)
