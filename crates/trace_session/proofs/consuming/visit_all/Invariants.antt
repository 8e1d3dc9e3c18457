use Rattle.std.proofs.Common.{◌≡◌}
use Rattle.trace_session.specs.declared.consuming.Round.TheVariants as rounds
use Rattle.trace_session.specs.Rounds.{Roams, IsOverUpTo}
use Rattle.trace_session.proofs.consuming.visit_all.Given as goal

abbrev pub invariant-loop-writer : goal.invariant-loop-writer
invariant-loop-writer g l = record {
  roams : Roams g.O.StageOut.got g.O.StageOut.ended g.O.StageOut.pair g.O.StageOut.plan l.fn.roamer l.roamer (g.K.Sink.put l.fn.sink) (g.K.Sink.put l.sink) (g.K.Sink.faults l.fn.sink) (g.K.Sink.faults l.sink);
  over : l.round ≡ rounds.Over → IsOverUpTo g.O.StageOut.ended l.writer l.roamer;
  others : g.K.Sink.rest l.fn.sink l.sink;
}
