use Rattle.trace_session.specs.Workers.{IsSameWork}
use Rattle.trace_session.proofs.worker.Worker.work.Given as goal

abbrev pub invariant-loop : goal.invariant-loop
invariant-loop g l = IsSameWork g.S.StageIn.pair g.S.StageIn.words l.initial.self l.self
