use Rattle.std.proofs.Common.{subst}
use Rattle.trace_session.specs.Workers.{WorkerView, HasWorked, state_of}
use Rattle.trace_session.proofs.worker.Worker.into_parts.Goals as goal

pub returns-clause-worked : goal.returns-clause-worked
returns-clause-worked g c =
    subst (λ (w : WorkerView g.row.S.Denot). HasWorked w.task w.progress (state_of g.S.StageIn.plan g.S.StageIn.words g.S.StageIn.sent g.S.StageIn.at g.S.StageIn.seen g.S.StageIn.closed w.writer))
    c.self.view_is c.self.invariant.0
