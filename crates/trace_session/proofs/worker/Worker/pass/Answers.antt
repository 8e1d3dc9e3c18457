use Rattle.std.proofs.Common.{◌+◌, refl, subst, sym, ap, ◌∙◌, arith}
use Rattle.trace_session.specs.Workers.{WorkerView, IsNextFiltered}
use Rattle.trace_session.specs.Turns.{SkipsFiltered}
use Rattle.trace_session.specs.WorkerInside.{worker_task, worker_progress_of}
use Rattle.trace_session.proofs.Working.{worked_next, worked_passed, kept_passed}
use Rattle.trace_session.proofs.worker.Worker.pass.Goals as goal

pub overflow_add-self : goal.overflow_add-self
overflow_add-self g c =
    let next = subst (λ (w : WorkerView g.row.S.Denot). IsNextFiltered w.task w.progress) (sym c.self.view_is) c.requires.filtered in
    omega (arith, worked_next c.self.invariant.0 next.0 next.1)

pub invariant_of-self : goal.invariant_of-self
invariant_of-self g c =
    let next = subst (λ (w : WorkerView g.row.S.Denot). IsNextFiltered w.task w.progress) (sym c.self.view_is) c.requires.filtered in
    let still = ap (λ (w : WorkerView g.row.S.Denot). w.progress.closed) c.self.view_is ∙ c.requires.unfinished in (
      worked_passed c.self.invariant.0 still next.0 next.1 next.2,
      λ shed. let room = c.self.invariant.1 shed in omega (arith, room),
    )

pub returns-clause-passes : goal.returns-clause-passes
returns-clause-passes g c =
    let task = worker_task c.self.inside in
    let progress = worker_progress_of c.self.inside in
    let next = subst (λ (w : WorkerView g.row.S.Denot). IsNextFiltered w.task w.progress) (sym c.self.view_is) c.requires.filtered in
    let new : WorkerView g.row.S.Denot = record {
      task = task;
      writer = c.self.inside.writer;
      progress = record progress { next = c.self.inside.next + 1 };
    } in
    subst (λ (w : WorkerView g.row.S.Denot). SkipsFiltered w new) c.self.view_is (record {
      task_is = refl;
      writer_is = refl;
      drops_are = refl;
      closed_is = refl;
      kept_are = kept_passed task progress next.0 next.1 next.2;
    })
