use Rattle.std.proofs.Common.{◌≡◌, List, ◌++◌, map, length}
use Rattle.std.specs.Prelude.{All}
use Rattle.std.specs.Arc.{arc_value}
use Rattle.log_dictionary.specs.Clocks.{first_tick}
use Rattle.ring_core.specs.Plans.{plan_of}
use Rattle.log_session.specs.Writers.{WriterView}
use Rattle.trace_session.specs.Workers.{work_of}
use Rattle.trace_session.specs.Finishing.{works_of}
use Rattle.trace_session.specs.Running.{IsNewWriter}
use Rattle.trace_session.proofs.preparing.make_workers.Given as goal

-- the workers are those of the writers that were seen
abbrev pub invariant-loop-writer : goal.invariant-loop-writer
invariant-loop-writer g l =
    (seen : List (WriterView g.row.S.Denot))
    × (seen ++ l.writer-iterator.rest.items ≡ l.fn.writers.items)
    × (map (work_of g.S.StageIn.pair g.S.StageIn.words) l.workers.items ≡ works_of (arc_value l.trace) l.options (map (λ writer. g.S.StageIn.pair writer.end) seen))
    × All (IsNewWriter l.options.ring (plan_of (arc_value l.trace).dictionary (first_tick (arc_value l.trace).clocks)) g.S.StageIn.words g.S.StageIn.plan g.S.StageIn.sent g.S.StageIn.closed g.S.StageIn.at g.S.StageIn.seen) l.writer-iterator.rest.items
    × (length l.writer-iterator.rest.items ≡ l.writer-iterator.rest.len)
