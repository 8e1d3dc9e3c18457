use Rattle.schedule_text.specs.declared.playing.TheConstants.{MAX_STEPS}
use Rattle.schedule_text.specs.Judged.{steps_judged}
use Rattle.schedule_text.proofs.Runs.{ends_cut, refused_cut}
use Rattle.schedule_text.proofs.playing.play_in.Goals as goal

pub returns-in-Err-put_end-clause-plays : goal.returns-in-Err-put_end-clause-plays
returns-in-Err-put_end-clause-plays g c =
    ends_cut _ c.run_steps.new.rings _ (g.O.Sink.put c.run_steps.new.out) _ _ _ _ c.run_steps.new.writer c.in-Ok.ensures.runs c.in-Err-put_end.ensures.cut_off

pub returns-in-Err-flush-clause-plays : goal.returns-in-Err-flush-clause-plays
returns-in-Err-flush-clause-plays g c =
    refused_cut (steps_judged MAX_STEPS c.args.rings.now 0 c.args.text.now) c.run_steps.new.rings (g.O.Sink.put c.args.out.now) (g.O.Sink.put c.run_steps.new.out) (g.O.Sink.put c.flush.new.sink)
    (g.O.Sink.faults c.args.out.now) (g.O.Sink.faults c.run_steps.new.out) (g.O.Sink.faults c.flush.new.sink) c.run_steps.new.writer c.in-Err-Refused.line c.in-Err-Refused.cause
    (rw c.in-Err-Refused.field-0-is at c.in-Err-Refused.ensures.runs) c.in-Err-flush.ensures.cut_off
