use Rattle.std.proofs.Common.{◌≡◌, Bool, true, false, not, List, Some, refl, subst, sym, ap, ◌∙◌}
use Rattle.std.specs.Prelude.{IsTrue, slice_get}
use Rattle.std.proofs.lemmas.Option.{same_Some}
use Rattle.arg_records.specs.declared.call.Call.{Call}
use Rattle.arg_records.specs.Calls.{IsCall}
use Rattle.trace_text.specs.Recordings.{Recording}
use Rattle.trace_session.specs.Levels.{keeps}
use Rattle.trace_session.specs.Workers.{WorkerView, IsNextFiltered, task_calls}
use Rattle.trace_session.specs.WorkerInside.{worker_task}
use Rattle.trace_session.proofs.Working.{worked_call}
use Rattle.trace_session.proofs.worker.Worker.is_at_filtered.Goals as goal

not_kept : (b : Bool) → IsTrue (not b) → b ≡ false
not_kept true is = absurd cc
not_kept false is = refl

kept_not : (b : Bool) → b ≡ false → IsTrue (not b)
kept_not true is = absurd cc
kept_not false is = search

pub is_kept-requires : goal.is_kept-requires
is_kept-requires g c =
    let run = c.behind-self.view_is ∙ c.deref.ensures in
    let calls : c.calls.result.now ≡ task_calls (worker_task c.self.inside) = c.calls.ensures ∙ ap (λ (w : WorkerView g.row.S.Denot). task_calls w.task) (sym c.self.view_is) in
    let is : slice_get (task_calls (worker_task c.self.inside)) c.self.inside.next ≡ Some c.in-Some.call.now = ap (λ (l : List Call). slice_get l c.self.inside.next) (sym calls) ∙ sym c.in-Some.ensures.value in
    subst (λ (r : Recording). IsCall r.dictionary c.in-Some.call.now) (sym run) (worked_call c.self.invariant.0 c.in-Some.call.now is)

pub returns-in-Some : goal.returns-in-Some
returns-in-Some g c =
    let run = c.behind-self.view_is ∙ c.deref.ensures in
    let task = worker_task c.self.inside in
    let calls : c.calls.result.now ≡ task_calls task = c.calls.ensures ∙ ap (λ (w : WorkerView g.row.S.Denot). task_calls w.task) (sym c.self.view_is) in
    let is : slice_get (task_calls task) c.self.inside.next ≡ Some c.in-Some.call.now = ap (λ (l : List Call). slice_get l c.self.inside.next) (sym calls) ∙ sym c.in-Some.ensures.value in
    let kept : c.is_kept.result ≡ keeps task.run.dictionary task.level c.in-Some.call.now = c.is_kept.ensures ∙ ap (λ (r : Recording). keeps r.dictionary task.level c.in-Some.call.now) run in
    subst (λ (w : WorkerView g.row.S.Denot). (IsTrue (not c.is_kept.result) → IsNextFiltered w.task w.progress) × (IsNextFiltered w.task w.progress → IsTrue (not c.is_kept.result))) c.self.view_is (
      (λ passed. (c.in-Some.call.now, is, sym kept ∙ not_kept c.is_kept.result passed)),
      (λ next. let same : c.in-Some.call.now ≡ next.0 = same_Some c.in-Some.call.now next.0 (sym is ∙ next.1) in
          kept_not c.is_kept.result (kept ∙ ap (keeps task.run.dictionary task.level) same ∙ next.2)),
    )
