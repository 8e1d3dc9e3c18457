use Rattle.std.proofs.Common.{length, inl, ap, arith}
use Rattle.trace_session.specs.Workers.{WorkerView}
use Rattle.trace_session.proofs.Working.{kept_next}
use Rattle.trace_session.proofs.worker.Worker.try_next.Goals as goal

pub try_call-requires-clause-next : goal.try_call-requires-clause-next
try_call-requires-clause-next g c κs within =
    let worker = c.args.self.now in
    let next = ap (λ (w : WorkerView g.row.S.Denot). w.progress.next) c.self.view_is in
    kept_next worker.task worker.progress (omega (arith, next, c.if-self-len.true, c.len.ensures, ap length c.calls.ensures)) c.requires.passed

pub returns-then-self-len-clause-tried : goal.returns-then-self-len-clause-tried
returns-then-self-len-clause-tried g c = inl c.try_call.ensures.tried
