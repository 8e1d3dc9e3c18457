use Rattle.std.proofs.Common.{◌≤◌, sym, subst}
use Rattle.std.proofs.lemmas.Result.{on_ok_weaker}
use Rattle.log_dictionary.specs.Clocks.{first_tick}
use Rattle.arg_records.specs.Calls.{IsCall}
use Rattle.trace_text.specs.Recordings.{Recording}
use Rattle.trace_commands.proofs.CallLines.{called}
use Rattle.trace_commands.proofs.lines.append_call.Goals as goal

pub append_line-requires-clause-named : goal.append_line-requires-clause-named
append_line-requires-clause-named c = subst (λ (run : Recording). IsCall run.dictionary c.call_at-call.result.now) (sym c.run.view_is) c.call_at-call.ensures.named

pub append_line-requires-clause-later : goal.append_line-requires-clause-later
append_line-requires-clause-later c = subst (λ (run : Recording). first_tick run.clocks ≤ c.call_at-call.result.now.stamp) (sym c.run.view_is) c.call_at-call.ensures.later

pub returns : goal.returns
returns c = on_ok_weaker c.append_line.result (called _ _ c.args.place c.call_at-call.result.now _ _ c.run.view_is c.call_at-call.ensures.made) c.append_line.ensures
