use Rattle.std.proofs.Common.{refl, sym, ap, ◌∙◌, inl, inr}
use Rattle.std.specs.Prelude.{codes}
use Rattle.std.proofs.lemmas.Bool.{and_parts}
use Rattle.session_options.specs.Versions.{has_clocks}
use Rattle.session_options.proofs.lemmas.RunClocks.{may_have_more}
use Rattle.trace_text.specs.declared.cause.TraceCause.TheVariants.{NoEnd, Writers}
use Rattle.trace_text.specs.Recordings.{start_of}
use Rattle.trace_text.specs.LineFields.{begins_with}
use Rattle.trace_text.specs.Reading.{clocks, calls}
use Rattle.trace_text.specs.Progress.{progress}
use Rattle.trace_text.proofs.Steps.{leads, leads_on, refused_here, refused_on, refused_as, ends_here}
use Rattle.trace_text.proofs.reading.read_clocks.Goals as goal

pub returns-in_default-read_writers-clause-front : goal.returns-in_default-read_writers-clause-front
returns-in_default-read_writers-clause-front c messages =
    let here = progress (clocks c.args.version messages c.loop-line.clocks) c.loop-line.lines in
    refused_on (progress (clocks c.args.version messages c.args.clocks) c.args.lines) here _ (c.loop-line.invariant.led messages)
    (refused_as here _ Writers c.refused.ensures (refused_here here c.in-Some.line.now c.in-Some.rest.bytes.now Writers c.in-Some.ensures.some (inr (sym c.is_later_clock.ensures ∙ c.if-not-is_later_clock.true, sym c.in_default-read_writers.ensures, refl))))

pub returns-then-not-is_later_clock-clause-front : goal.returns-then-not-is_later_clock-clause-front
returns-then-not-is_later_clock-clause-front c messages =
    let here = progress (clocks c.args.version messages c.loop-line.clocks) c.loop-line.lines in
    let there = progress (calls (start_of c.args.version messages c.loop-line.clocks c.in-Some-read_writers.writers)) c.in-Some.rest in
    leads_on (progress (clocks c.args.version messages c.args.clocks) c.args.lines) here there (c.loop-line.invariant.led messages)
    (leads here there c.in-Some.line.now c.in-Some.ensures.some c.in-Some.ensures.next (inr (sym c.is_later_clock.ensures ∙ c.if-not-is_later_clock.true, (c.in-Some-read_writers.writers, sym c.in-Some-read_writers.ensures, refl))))

pub returns-in-Err-clause-front : goal.returns-in-Err-clause-front
returns-in-Err-clause-front c messages =
    let here = progress (clocks c.args.version messages c.loop-line.clocks) c.loop-line.lines in
    refused_on (progress (clocks c.args.version messages c.args.clocks) c.args.lines) here _ (c.loop-line.invariant.led messages)
    (refused_as here _ c.in-Err.cause c.refused-in-Err.ensures (refused_here here c.in-Some.line.now c.in-Some.rest.bytes.now c.in-Err.cause c.in-Some.ensures.some (inl (sym c.is_later_clock.ensures ∙ c.if-not-is_later_clock.false, c.in-Err.ensures.err))))

pub loop-line-preserved : goal.loop-line-preserved
loop-line-preserved c =
    let later = sym c.is_later_clock.ensures ∙ c.if-not-is_later_clock.false in
    let (time, read, follows, fits, is) = c.in_default-add_clock.ensures.ok in
    record {
      led = λ messages.
          let here = progress (clocks c.args.version messages c.loop-line.clocks) c.loop-line.lines in
          let there = progress (clocks c.args.version messages c.add_clock.new.clocks) c.in-Some.rest in
          leads_on (progress (clocks c.args.version messages c.args.clocks) c.args.lines) here there (c.loop-line.invariant.led messages)
          (leads here there c.in-Some.line.now c.in-Some.ensures.some c.in-Some.ensures.next (inl (later, (time, read, ap (clocks c.args.version messages) is))));
      may = may_have_more c.args.version c.loop-line.clocks c.add_clock.new.clocks time c.loop-line.invariant.may (and_parts (has_clocks c.args.version) (begins_with (codes "clock ") c.in-Some.line.now) later).0 follows fits is;
    }

pub returns-clause-front : goal.returns-clause-front
returns-clause-front c messages =
    let here = progress (clocks c.args.version messages c.loop-line.clocks) c.loop-line.lines in
    refused_on (progress (clocks c.args.version messages c.args.clocks) c.args.lines) here _ (c.loop-line.invariant.led messages) (refused_as here _ NoEnd c.refused-2.ensures (ends_here here c.in_default.ensures.none))
