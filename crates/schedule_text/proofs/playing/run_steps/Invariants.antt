use Rattle.std.proofs.Common.{◌≡◌, ◌≤◌, ◌-◌}
use Rattle.schedule_text.specs.declared.playing.TheConstants.{MAX_STEPS}
use Rattle.schedule_text.specs.Judged.{steps_judged}
use Rattle.schedule_text.specs.Playing.{Reached}
use Rattle.schedule_text.proofs.Runs.{Front}
use Rattle.schedule_text.proofs.playing.run_steps.Given as goal

-- the lines of the steps so far are put or held back, and the others are still to come
abbrev pub invariant-loop-rest : goal.invariant-loop-rest
invariant-loop-rest g l = record {
  few : l.made ≤ MAX_STEPS;
  reached : Reached l.made l.rings;
  front : Front (steps_judged MAX_STEPS l.fn.rings 0 l.text) (steps_judged (MAX_STEPS - l.made) l.rings l.made l.rest)
      (g.O.Sink.put l.fn.out) (g.O.Sink.put l.out) l.writer;
  counted : g.O.Sink.faults l.out ≡ g.O.Sink.faults l.fn.out;
  others : g.O.Sink.rest l.fn.out l.out;
}

abbrev pub decreases-loop-rest : goal.decreases-loop-rest
decreases-loop-rest g l = MAX_STEPS - l.made
