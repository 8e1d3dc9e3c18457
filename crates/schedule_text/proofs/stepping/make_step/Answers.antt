use Rattle.std.proofs.Common.{arith}
use Rattle.ring_machine.proofs.lemmas.Schedules.{event_number}
use Rattle.schedule_text.specs.Judged.{event_of}
use Rattle.schedule_text.proofs.Judging.{view_there}
use Rattle.schedule_text.proofs.stepping.make_step.Goals as goal

pub returns-clause-view : goal.returns-clause-view
returns-clause-view c =
    view_there c.step.new.self c.args.ring c.view.result
    (omega (arith, c.if-ring-len.false, c.len.ensures, event_number c.args.rings.now c.step.new.self (event_of (c.args.ring, c.args.step)) c.in_ok-step.ensures.ok))
    c.view.ensures.view
