use Rattle.std.proofs.Common.{ℕ, List, sym, subst}
use Rattle.std.specs.Arc.{arc_value}
use Rattle.trace_session.specs.Sessions.{IsWholeLog}
use Rattle.session_commands.proofs.SelftestEnds.{put_all, session_log}
use Rattle.session_commands.proofs.selftesting.log_of.Goals as goal

pub returns-in-Ok-clause-ok : goal.returns-in-Ok-clause-ok
returns-in-Ok-clause-ok g c =
    let (bytes, put, session) = c.in-Ok.ensures.ok in
    let run = arc_value c.args.trace.now in
    subst (λ (log : List ℕ). IsWholeLog run 4096 run.writers log) (sym (put_all _ _ bytes put c.in_ok-sink.ensures.empty))
    (session_log g.S.Done.StageDone.sent g.S.Done.StageDone.got run c.default.result c.in-Ok.field-0 bytes c.requires.recorded c.default.ensures session)
