use Rattle.std.proofs.Common.{◌≡◌, [], Ok, Err, refl, ap, sym, subst, ◌∙◌, rules}
use Rattle.nl_io.proofs.lemmas.Contents.{with_end-none}
use Rattle.decompressor.specs.declared.fault.DecodeFault.{DecodeFault}
use Rattle.decompressor.specs.declared.step.Step.{Step}
use Rattle.decompressor.specs.declared.step.Step.TheVariants.{More, End}
use Rattle.decompressor.specs.Decompressing.{Decompresses}
use Rattle.decompressor.specs.Decompressors.{Steps}
use Rattle.decompressor.proofs.Outcomes.{without_header, on_next, falls, ended, failed_as}
use Rattle.decompressor.proofs.decompressing.decompress.Goals.{In_ok-step}
use Rattle.decompressor.proofs.decompressing.decompress.Given.{Over}
use Rattle.decompressor.proofs.decompressing.decompress.Goals as goal

pub returns-in-Err-clause-text : goal.returns-in-Err-clause-text
returns-in-Err-clause-text g c =
    let file = g.S.Source.left c.args.source.now in
    let left = g.S.Source.left c.make.new.source in
    let before = g.S.Source.faults c.args.source.now in
    let after = g.S.Source.faults c.make.new.source in
    let put = g.K.Sink.put c.args.out.now in
    let e = c.in-Err.ensures in
    subst (λ (fault : DecodeFault). Decompresses file left before after put put (Err fault)) (sym c.header_fault.ensures.is)
    (without_header file left before after put c.in-Err.fault (λ cause is. e.damaged cause (ap Err is)) (λ is. e.cut (ap Err is)) (λ is. e.read_fault (ap Err is)) (λ other. e.counted (λ is. other cc)))

-- the step that was made
stepped : (g : Over) (c : In_ok-step g) (step : Step) → c.in_ok-step.field-0 ≡ step
    → Steps c.loop-printer.printer c.step.new.self c.loop-printer.invariant.on.taken c.loop-printer.invariant.on.text c.loop-printer.invariant.on.printed (g.S.Source.left c.loop-printer.source) (g.S.Source.left c.step.new.source) (g.S.Source.faults c.loop-printer.source) (g.S.Source.faults c.step.new.source)
    (g.K.Sink.put c.loop-printer.out) (g.K.Sink.put c.step.new.out) (Ok step)
stepped g c step is =
    let on = c.loop-printer.invariant.on in
    subst (λ (step : Step). Steps c.loop-printer.printer c.step.new.self on.taken on.text on.printed (g.S.Source.left c.loop-printer.source) (g.S.Source.left c.step.new.source) (g.S.Source.faults c.loop-printer.source) (g.S.Source.faults c.step.new.source) (g.K.Sink.put c.loop-printer.out) (g.K.Sink.put c.step.new.out) (Ok step)) is
    (c.in_ok-step.ensures.step on.taken on.text on.printed)

pub returns-in_err-step-clause-text : goal.returns-in_err-step-clause-text
returns-in_err-step-clause-text g c =
    let on = c.loop-printer.invariant.on in
    failed_as on c.step.new.self _ _ _ _ c.loop-printer.invariant.counted c.in_err-step.field-0.0 c.from_residual.result c.from_residual.ensures.1 (c.in_err-step.ensures.step on.taken on.text on.printed)

pub returns-in_err-step-clause-out_others : goal.returns-in_err-step-clause-out_others
returns-in_err-step-clause-out_others g c = g.met.K.Sink.rest_then _ _ _ c.loop-printer.invariant.out_others c.step.ensures.out_others

pub returns-in_err-step-clause-source_others : goal.returns-in_err-step-clause-source_others
returns-in_err-step-clause-source_others g c = g.met.S.Source.rest_then _ _ _ c.loop-printer.invariant.source_others c.step.ensures.source_others

pub loop-printer-smaller : goal.loop-printer-smaller
loop-printer-smaller g c = falls c.loop-printer.invariant.on (stepped g (goal.at.loop-printer-smaller g c).In_ok-step More c.in-More.is).0

pub loop-printer-preserved : goal.loop-printer-preserved
loop-printer-preserved g c =
    let (on, counted) = stepped g (goal.at.loop-printer-preserved g c).In_ok-step More c.in-More.is in
    record {
      held = c.in_ok-step.ensures.held (ap Ok c.in-More.is);
      on = on_next c.loop-printer.invariant.on on;
      counted = counted ∙ c.loop-printer.invariant.counted;
      written = c.in_ok-step.ensures.written (λ e. cc) ∙ c.loop-printer.invariant.written;
      source_others = g.met.S.Source.rest_then _ _ _ c.loop-printer.invariant.source_others c.step.ensures.source_others;
      out_others = g.met.K.Sink.rest_then _ _ _ c.loop-printer.invariant.out_others c.step.ensures.out_others;
    }

pub returns-in-End-clause-text : goal.returns-in-End-clause-text
returns-in-End-clause-text g c =
    ended c.loop-printer.invariant.on c.step.new.self (g.S.Source.left c.step.new.source) _ _ _ c.loop-printer.invariant.counted c.in-End.report (stepped g (goal.at.returns-in-End-clause-text g c).In_ok-step (End c.in-End.report) c.in-End.is)

pub returns-in-End-clause-out_others : goal.returns-in-End-clause-out_others
returns-in-End-clause-out_others g c = g.met.K.Sink.rest_then _ _ _ c.loop-printer.invariant.out_others c.step.ensures.out_others

pub returns-in-End-clause-source_others : goal.returns-in-End-clause-source_others
returns-in-End-clause-source_others g c = g.met.S.Source.rest_then _ _ _ c.loop-printer.invariant.source_others c.step.ensures.source_others

pub loop-printer-init : goal.loop-printer-init
loop-printer-init g c =
    let (taken, printed, none, file_is) = c.in-Ok.ensures.ok in
    record {
      held = c.make-text_writer.ensures;
      on = record { taken = taken; text = []; printed = printed; file_is = file_is; put_is = with_end-none [] (g.K.Sink.put c.args.out.now) };
      counted = search rules;
      written = refl;
      source_others = c.make.ensures.others;
      out_others = g.met.K.Sink.rest_same _;
    }
