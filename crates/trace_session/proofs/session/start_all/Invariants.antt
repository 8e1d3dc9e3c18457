use Rattle.std.proofs.Common.{◌≡◌, ◌+◌, ◌≤◌, ◌++◌, map, length}
use Rattle.std.specs.Prelude.{vec_len}
use Rattle.std.specs.Vec.{vec_capacity}
use Rattle.trace_session.specs.Workers.{work_of}
use Rattle.trace_session.specs.Workplaces.{works_at}
use Rattle.trace_session.proofs.session.start_all.Given as goal

-- the workplaces' workers, and behind them those that wait
abbrev pub invariant-loop-worker : goal.invariant-loop-worker
invariant-loop-worker g l =
    (works_at g.I.StageIn.pair g.I.StageIn.words l.workplaces.items ++ map (work_of g.I.StageIn.pair g.I.StageIn.words) l.worker-iterator.rest.items ≡ map (work_of g.I.StageIn.pair g.I.StageIn.words) l.fn.workers.items)
    × (vec_len l.workplaces + length l.worker-iterator.rest.items ≤ vec_capacity l.workplaces)
    × (length l.worker-iterator.rest.items ≡ l.worker-iterator.rest.len)
