use Rattle.std.proofs.Common.{◌-◌, length}
use Rattle.trace_session.specs.Workers.{task_calls}
use Rattle.trace_session.specs.Turns.{SkipsFiltered}
use Rattle.trace_session.proofs.worker.Worker.pass_filtered.Given as goal

abbrev pub invariant-loop-self : goal.invariant-loop-self
invariant-loop-self g l = SkipsFiltered l.initial.self l.self

abbrev pub decreases-loop-self : goal.decreases-loop-self
decreases-loop-self g l = length (task_calls l.self.task) - l.self.progress.next
