use Rattle.std.proofs.Common.{◌≡◌, ◌<◌, List, length, sym, subst, set, OnOk}
use Rattle.arg_records.specs.declared.call.Call.{Call}
use Rattle.trace_text.specs.CallReading.{with_call_of}
use Rattle.trace_text.proofs.lemmas.RunSteps.{written}
use Rattle.trace_text.proofs.writer_calls.WriterCalls.push_call.Goals as goal

pub returns-clause-ok : goal.returns-clause-ok
returns-clause-ok c =
    let items : List (List Call) = c.self.inside.items.items in
    let within : c.args.writer < length items = subst (λ (w : List (List Call)). c.args.writer < length w) (sym c.self.view_is) c.requires in
    subst (λ (w : List (List Call)). OnOk c.push.result (set items c.args.writer c.push.new.self ≡ with_call_of w c.args.writer c.args.call)) c.self.view_is
    (written items c.args.writer c.args.call c.index_mut.result.now c.push.new.self c.push.result within c.index_mut.ensures.value c.push.ensures.ok)
