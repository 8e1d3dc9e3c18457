use Rattle.std.proofs.Common.{refl, sym, ap, ◌∙◌, inl, inr, subst, arith, length}
use Rattle.trace_text.specs.declared.cause.TraceCause.TheVariants.{NoEnd}
use Rattle.trace_text.specs.Lines.{WriterCall, last_line}
use Rattle.std.specs.Prelude.{sum_by}
use Rattle.trace_text.specs.Recordings.{Recording}
use Rattle.trace_text.specs.Canonical.{HasText}
use Rattle.trace_text.specs.Reading.{calls, ended}
use Rattle.trace_text.specs.Progress.{progress, IsRefusal}
use Rattle.trace_text.proofs.lemmas.CallRuns.{CanFollow}
use Rattle.trace_text.proofs.SpelledRuns.{text_after}
use Rattle.trace_text.proofs.CallSteps.{breaks_call, can_follow, writer_is_there, one_call_more}
use Rattle.trace_text.proofs.Steps.{leads, leads_on, refused_on, refused_as, finished_on, ends_here}
use Rattle.trace_text.proofs.LineFronts.{same_line, other_line}
use Rattle.trace_text.proofs.reading.read_calls.Goals as goal
use Rattle.trace_text.proofs.reading.read_calls.Goals.{In-Ok}

pub returns-then-eq : goal.returns-then-eq
returns-then-eq c =
    let here = progress (calls c.loop-line.run) c.loop-line.lines in
    let there = progress (ended c.loop-line.run) c.in-Some.rest in
    let led = leads here there c.in-Some.line.now c.in-Some.ensures.some c.in-Some.ensures.next (inl (same_line _ last_line (sym c.eq.ensures ∙ c.if-eq.true), refl)) in
    finished_on (progress (calls c.args.run) c.args.lines) there _ (leads_on (progress (calls c.args.run) c.args.lines) here there c.loop-line.invariant.led led) c.read_nothing.ensures

pub returns-in-Err : goal.returns-in-Err
returns-in-Err c =
    let here = progress (calls c.loop-line.run) c.loop-line.lines in
    refused_on (progress (calls c.args.run) c.args.lines) here _ c.loop-line.invariant.led
    (subst (IsRefusal here) (sym c.call_fault.ensures) (breaks_call c.loop-line.run c.loop-line.lines c.in-Some.line.now c.in-Some.rest.bytes.now c.in-Err.fault c.in-Some.ensures.some (other_line _ last_line (sym c.eq.ensures ∙ c.if-eq.false)) c.in-Err.ensures.read))

-- the call that was read can follow
next : (c : In-Ok) → CanFollow c.loop-line.run (record { writer = c.in-Ok.made.0; call = c.in-Ok.made.1 })
next c = can_follow c.loop-line.run c.in-Some.line.now (record { writer = c.in-Ok.made.0; call = c.in-Ok.made.1 }) c.in-Ok.ensures.read

pub push_call-requires-clause-writer : goal.push_call-requires-clause-writer
push_call-requires-clause-writer c = writer_is_there c.loop-line.run _ (next (goal.at.push_call-requires-clause-writer c).In-Ok)

pub push_call-requires-clause-has_text : goal.push_call-requires-clause-has_text
push_call-requires-clause-has_text c = text_after c.loop-line.run c.in-Some.line.now _ (subst HasText c.run.view_is c.run.invariant) c.in-Ok.ensures.read

pub loop-line-preserved : goal.loop-line-preserved
loop-line-preserved c =
    let here = progress (calls c.loop-line.run) c.loop-line.lines in
    let there = progress (calls c.push_call.new.self) c.in-Some.rest in
    let made : WriterCall = record { writer = c.in-Ok.made.0; call = c.in-Ok.made.1 } in
    record {
      counted = omega (arith, c.loop-line.invariant.counted, one_call_more c.loop-line.run made (next (goal.at.loop-line-preserved c).In-Ok), ap (λ (run : Recording). sum_by length run.writers) c.in-Ok-push_call.ensures.ok);
      led = leads_on (progress (calls c.args.run) c.args.lines) here there c.loop-line.invariant.led
          (leads here there c.in-Some.line.now c.in-Some.ensures.some c.in-Some.ensures.next (inr (other_line _ last_line (sym c.eq.ensures ∙ c.if-eq.false), (made, c.in-Ok.ensures.read, ap calls c.in-Ok-push_call.ensures.ok))));
    }

pub returns : goal.returns
returns c =
    let here = progress (calls c.loop-line.run) c.loop-line.lines in
    refused_on (progress (calls c.args.run) c.args.lines) here _ c.loop-line.invariant.led (refused_as here _ NoEnd c.refused.ensures (ends_here here c.in_default.ensures.none))
