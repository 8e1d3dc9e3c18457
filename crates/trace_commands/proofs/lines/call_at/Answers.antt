use Rattle.trace_commands.proofs.CallLines.{writer_there, call_there_at, found_at}
use Rattle.trace_commands.proofs.lines.call_at.Goals as goal

pub calls-calls-requires : goal.calls-calls-requires
calls-calls-requires c = writer_there _ _ _ c.run.view_is c.requires

pub call-requires : goal.call-requires
call-requires c = call_there_at _ _ _ _ c.run.view_is c.requires c.calls-calls.ensures

pub returns-clause-named : goal.returns-clause-named
returns-clause-named c = (found_at _ _ c.args.place _ _ c.run.view_is c.run.invariant.recorded c.calls-calls.ensures c.call.ensures).named

pub returns-clause-later : goal.returns-clause-later
returns-clause-later c = (found_at _ _ c.args.place _ _ c.run.view_is c.run.invariant.recorded c.calls-calls.ensures c.call.ensures).later

pub returns-clause-made : goal.returns-clause-made
returns-clause-made c = (found_at _ _ c.args.place _ _ c.run.view_is c.run.invariant.recorded c.calls-calls.ensures c.call.ensures).is
