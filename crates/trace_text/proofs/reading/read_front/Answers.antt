use Rattle.std.proofs.Common.{List, [], ◌∷◌, refl, sym, inl, inr, subst}
use Rattle.trace_text.specs.declared.cause.TraceCause.TheVariants.{Clock, NoEnd}
use Rattle.trace_text.specs.Reading.{messages, clocks}
use Rattle.trace_text.specs.Progress.{progress, IsRefusal, GivesFrom}
use Rattle.trace_text.specs.Canonical.{HaveMessageLines}
use Rattle.log_dictionary.specs.declared.message.Message.{Message}
use Rattle.trace_text.proofs.SpelledRuns.{no_messages, lines_after}
use Rattle.trace_text.proofs.Steps.{leads, leads_on, refused_here, refused_on, refused_as, ends_here}
use Rattle.trace_text.proofs.HeadLines.{clock_taken}
use Rattle.trace_text.proofs.LineFronts.{line_begins, line_begins_not}
use Rattle.trace_text.proofs.MessageSteps.{follows_read, breaks_read}
use Rattle.trace_text.proofs.reading.read_front.Goals as goal

pub returns-in_default-read_clock-clause-front : goal.returns-in_default-read_clock-clause-front
returns-in_default-read_clock-clause-front c version =
    let here = progress (messages version c.loop-line.dictionary) c.loop-line.lines in
    refused_on (progress (messages version []) c.args.lines) here _ (c.loop-line.invariant.led version)
    (refused_as here _ Clock c.refused.ensures (refused_here here c.in-Some.line.now c.in-Some.rest.bytes.now Clock c.in-Some.ensures.some (inr (line_begins_not c.in-Some.line.now c.starts_with.result c.starts_with.ensures.value c.if-not-starts_with.true, sym c.in_default-read_clock.ensures, refl))))

pub returns-then-not-starts_with-clause-front : goal.returns-then-not-starts_with-clause-front
returns-then-not-starts_with-clause-front c version =
    let here = progress (messages version c.loop-line.dictionary) c.loop-line.lines in
    let there = progress (clocks version c.loop-line.dictionary (c.in-Some-read_clock.clock ∷ [])) c.in-Some.rest in
    leads_on (progress (messages version []) c.args.lines) here there (c.loop-line.invariant.led version)
    (leads here there c.in-Some.line.now c.in-Some.ensures.some c.in-Some.ensures.next (inr (line_begins_not c.in-Some.line.now c.starts_with.result c.starts_with.ensures.value c.if-not-starts_with.true, (c.in-Some-read_clock.clock, sym c.in-Some-read_clock.ensures, refl))))

pub returns-then-not-starts_with-clause-rate : goal.returns-then-not-starts_with-clause-rate
returns-then-not-starts_with-clause-rate c = (clock_taken c.in-Some.line.now c.in-Some-read_clock.clock (sym c.in-Some-read_clock.ensures)).ticks

pub returns-in-Err-clause-front : goal.returns-in-Err-clause-front
returns-in-Err-clause-front c version =
    let here = progress (messages version c.loop-line.dictionary) c.loop-line.lines in
    refused_on (progress (messages version []) c.args.lines) here _ (c.loop-line.invariant.led version)
    (subst (IsRefusal here) (sym c.message_fault.ensures) (breaks_read version c.loop-line.dictionary c.read_line.new.self c.loop-line.lines c.in-Some.line.now c.in-Some.rest.bytes.now c.in-Err.fault c.in-Some.ensures.some (line_begins c.in-Some.line.now c.starts_with.result c.starts_with.ensures.value c.if-not-starts_with.false) c.in-Err.ensures.reads))

pub returns-then-not-starts_with-clause-fits : goal.returns-then-not-starts_with-clause-fits
returns-then-not-starts_with-clause-fits c = (clock_taken c.in-Some.line.now c.in-Some-read_clock.clock (sym c.in-Some-read_clock.ensures)).fits

pub loop-line-init : goal.loop-line-init
loop-line-init c =
    let none = sym c.make-dictionary.ensures in
    record { led = λ version outcome gives. subst (λ (before : List Message). GivesFrom (progress (messages version before) c.args.lines) outcome) (sym none) gives; lines = subst HaveMessageLines none no_messages }

pub loop-line-preserved : goal.loop-line-preserved
loop-line-preserved c = record {
  led = λ version.
      let here = progress (messages version c.loop-line.dictionary) c.loop-line.lines in
      let there = progress (messages version c.read_line.new.self) c.in-Some.rest in
      leads_on (progress (messages version []) c.args.lines) here there (c.loop-line.invariant.led version)
      (leads here there c.in-Some.line.now c.in-Some.ensures.some c.in-Some.ensures.next (inl (follows_read version c.loop-line.dictionary c.read_line.new.self c.in-Some.line.now (line_begins c.in-Some.line.now c.starts_with.result c.starts_with.ensures.value c.if-not-starts_with.false) c.in_default-read_line.ensures.reads)));
  lines = lines_after c.loop-line.dictionary c.read_line.new.self c.in-Some.line.now _ c.loop-line.invariant.lines c.in_default-read_line.ensures.reads;
}

pub returns-clause-front : goal.returns-clause-front
returns-clause-front c version =
    let here = progress (messages version c.loop-line.dictionary) c.loop-line.lines in
    refused_on (progress (messages version []) c.args.lines) here _ (c.loop-line.invariant.led version) (refused_as here _ NoEnd c.refused-2.ensures (ends_here here c.in_default.ensures.none))
