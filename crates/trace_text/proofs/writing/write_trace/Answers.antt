use Rattle.std.proofs.Common.{◌∙◌}
use Rattle.nl_io.proofs.lemmas.TextWriters.{carries_all}
use Rattle.trace_text.specs.declared.writing.WriteTraceFault.TheVariants.{Failed}
use Rattle.trace_text.specs.Canonical.{front_text, Canonical}
use Rattle.trace_text.proofs.CallTexts.{fresh_line, front_put, front_cut, calls_put, calls_cut, end_put, end_cut, flush_cut, writes_fault}
use Rattle.trace_text.proofs.writing.write_trace.Goals as goal

pub returns-in_err-put-clause-written : goal.returns-in_err-put-clause-written
returns-in_err-put-clause-written g c =
    let run = c.args.trace.now in
    let was = g.K.Sink.put c.args.sink.now in
    let before = g.K.Sink.faults c.args.sink.now in
    let start = fresh_line _ _ _ (front_text run) c.deref.ensures.value c.in_ok-push_front.ensures.written c.new-front.ensures.items in
    writes_fault (Canonical run) was _ before _ Failed c.from_residual-in_err-put.result c.from_residual-in_err-put.ensures.1
    (front_cut run was before c.deref.result.now c.make-text.result _ _ c.make-text.ensures start c.in_err-put.ensures.cut_off)

pub returns-in_err-write_calls-clause-written : goal.returns-in_err-write_calls-clause-written
returns-in_err-write_calls-clause-written g c =
    let run = c.args.trace.now in
    let was = g.K.Sink.put c.args.sink.now in
    let before = g.K.Sink.faults c.args.sink.now in
    let start = fresh_line _ _ _ (front_text run) c.deref.ensures.value c.in_ok-push_front.ensures.written c.new-front.ensures.items in
    let first = front_put run was before c.deref.result.now c.make-text.result _ _ c.make-text.ensures start c.in_ok-put.ensures.ok in
    writes_fault (Canonical run) was _ before _ c.in_err-write_calls.field-0.0 c.from_residual-in_err-write_calls.result c.from_residual-in_err-write_calls.ensures.1
    (calls_cut run was before c.deref-2.result.now _ _ _ _ _ c.in_err-write_calls.field-0.0 (c.deref-2.ensures.value ∙ c.in_ok-places.ensures) first c.in_ok-put.ensures.counted c.in_err-write_calls.ensures.written)

pub returns-in_err-put-2-clause-written : goal.returns-in_err-put-2-clause-written
returns-in_err-put-2-clause-written g c =
    let run = c.args.trace.now in
    let was = g.K.Sink.put c.args.sink.now in
    let before = g.K.Sink.faults c.args.sink.now in
    let start = fresh_line _ _ _ (front_text run) c.deref.ensures.value c.in_ok-push_front.ensures.written c.new-front.ensures.items in
    let first = front_put run was before c.deref.result.now c.make-text.result _ _ c.make-text.ensures start c.in_ok-put.ensures.ok in
    let second = calls_put run was before c.deref-2.result.now _ _ _ _ (c.deref-2.ensures.value ∙ c.in_ok-places.ensures) first c.in_ok-write_calls.ensures.written.0 in
    writes_fault (Canonical run) was _ before _ Failed c.from_residual-in_err-put-2.result c.from_residual-in_err-put-2.ensures.1
    (end_cut run was before _ _ _ _ _ second (c.in_ok-write_calls.ensures.written.1 ∙ c.in_ok-put.ensures.counted) c.in_err-put-2.ensures.cut_off)

pub returns-in_err-flush-clause-written : goal.returns-in_err-flush-clause-written
returns-in_err-flush-clause-written g c =
    let run = c.args.trace.now in
    let was = g.K.Sink.put c.args.sink.now in
    let before = g.K.Sink.faults c.args.sink.now in
    let start = fresh_line _ _ _ (front_text run) c.deref.ensures.value c.in_ok-push_front.ensures.written c.new-front.ensures.items in
    let first = front_put run was before c.deref.result.now c.make-text.result _ _ c.make-text.ensures start c.in_ok-put.ensures.ok in
    let second = calls_put run was before c.deref-2.result.now _ _ _ _ (c.deref-2.ensures.value ∙ c.in_ok-places.ensures) first c.in_ok-write_calls.ensures.written.0 in
    let third = end_put run was before _ _ _ _ second c.in_ok-put-2.ensures.ok in
    writes_fault (Canonical run) was _ before _ Failed c.from_residual-in_err-flush.result c.from_residual-in_err-flush.ensures.1
    (flush_cut run was before _ _ _ _ _ third (c.in_ok-put-2.ensures.counted ∙ c.in_ok-write_calls.ensures.written.1 ∙ c.in_ok-put.ensures.counted) c.in_err-flush.ensures.cut_off)

pub returns-in_err-flush-clause-others : goal.returns-in_err-flush-clause-others
returns-in_err-flush-clause-others g c =
    let then = g.met.K.Sink.rest_then in
    then _ _ _ (then _ _ _ (then _ _ _ c.put.ensures.others c.write_calls.ensures.others) c.put-2.ensures.others) c.flush.ensures.others

pub returns-clause-written : goal.returns-clause-written
returns-clause-written g c =
    let run = c.args.trace.now in
    let was = g.K.Sink.put c.args.sink.now in
    let before = g.K.Sink.faults c.args.sink.now in
    let start = fresh_line _ _ _ (front_text run) c.deref.ensures.value c.in_ok-push_front.ensures.written c.new-front.ensures.items in
    let first = front_put run was before c.deref.result.now c.make-text.result _ _ c.make-text.ensures start c.in_ok-put.ensures.ok in
    let second = calls_put run was before c.deref-2.result.now _ _ _ _ (c.deref-2.ensures.value ∙ c.in_ok-places.ensures) first c.in_ok-write_calls.ensures.written.0 in
    let third = end_put run was before _ _ _ _ second c.in_ok-put-2.ensures.ok in
    (carries_all (Canonical run) _ was _ _ third c.in_ok-flush.ensures.ok, c.in_ok-flush.ensures.counted ∙ c.in_ok-put-2.ensures.counted ∙ c.in_ok-write_calls.ensures.written.1 ∙ c.in_ok-put.ensures.counted)
