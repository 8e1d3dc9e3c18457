use Rattle.std.proofs.Common.{◌≡◌}
use Rattle.trace_session.specs.Rounds.{Roams}
use Rattle.trace_session.specs.Workplaces.{works_at}
use Rattle.trace_session.proofs.consuming.consume.Given as goal

abbrev pub invariant-loop : goal.invariant-loop
invariant-loop g l = record {
  roams : Roams g.O.StageOut.got g.O.StageOut.ended g.O.StageOut.pair g.O.StageOut.plan l.fn.roamer l.roamer (g.K.Sink.put l.fn.sink) (g.K.Sink.put l.sink) (g.K.Sink.faults l.fn.sink) (g.K.Sink.faults l.sink);
  same : works_at g.I.StageIn.pair g.I.StageIn.words l.workplaces ≡ works_at g.I.StageIn.pair g.I.StageIn.words l.fn.workplaces;
  others : g.K.Sink.rest l.fn.sink l.sink;
}
