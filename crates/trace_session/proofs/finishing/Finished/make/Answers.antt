use Rattle.std.proofs.Common.{rules, ◌≡◌, List, [], subst, sym}
use Rattle.trace_session.specs.declared.drops.Dropped.{Dropped}
use Rattle.log_session.specs.Writers.{WriterView}
use Rattle.trace_session.specs.Finishing.{AreDone}
use Rattle.trace_session.proofs.Leaving.{none_done}
use Rattle.trace_session.proofs.finishing.Finished.make.Goals as goal
use Rattle.trace_session.proofs.finishing.Finished.make.Goals.{then-eq+in_ok-reserve_exact, else-eq}

pub invariant_of-result : goal.invariant_of-result
invariant_of-result g c =
    let drops : c.if-eq.drops.items ≡ [] = elim c.if-eq.branch [
      | then-eq+in_ok-reserve_exact w ↦ search rules
      | else-eq w ↦ search rules
    ] in
    let writers = c.in_ok-writers.ensures.items in (
      subst (λ (lists : List Dropped × List (WriterView g.row.S.Denot)). AreDone g.S.StageIn.sent g.S.StageIn.closed (record { run = c.args.trace.now; options = c.args.options.now; drops = lists.0; writers = lists.1 }))
          (λ i. (sym drops i, sym writers i)) (none_done _ _ c.args.trace.now c.args.options.now),
      search rules,
    )
