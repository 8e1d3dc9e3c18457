use Rattle.trace_text.proofs.LastStamps.{last_stamp_is, no_last_stamp}
use Rattle.trace_text.proofs.call_line.last_stamp.Goals as goal

pub returns-in-Some : goal.returns-in-Some
returns-in-Some c = last_stamp_is c.args.least c.args.calls.now c.in-Some.call.now c.in-Some.ensures

pub returns-in-None : goal.returns-in-None
returns-in-None c = no_last_stamp c.args.least c.args.calls.now c.in-None.ensures
