use Rattle.std.proofs.Common.{◌≡◌, List, ◌++◌, map, length}
use Rattle.trace_session.specs.Workers.{Work}
use Rattle.trace_session.specs.Workplaces.{works_at}
use Rattle.trace_session.proofs.finishing.Finished.add_all.Given as goal

-- the writers are those of the works that were seen
abbrev pub invariant-loop-workplace : goal.invariant-loop-workplace
invariant-loop-workplace g l =
    (seen : List Work)
    × (seen ++ works_at g.S.StageIn.pair g.S.StageIn.words l.workplace-iterator.rest.items ≡ works_at g.S.StageIn.pair g.S.StageIn.words l.fn.workplaces.items)
    × (map (λ writer. g.S.StageIn.pair writer.end) l.self.writers ≡ map (λ work. work.pair) seen)
    × (l.self.run ≡ l.fn.self.run)
    × (l.self.options ≡ l.fn.self.options)
    × (length l.workplace-iterator.rest.items ≡ l.workplace-iterator.rest.len)
