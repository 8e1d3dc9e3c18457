use Rattle.std.proofs.Common.{◌≡◌, ◌++◌, Result, Ok, Err, refl, ap, subst, ◌∙◌}
use Rattle.decompressor.specs.declared.fault.DecodeFault.{DecodeFault}
use Rattle.decompressor.specs.declared.step.Step.{Step}
use Rattle.decompressor.specs.declared.step.Step.TheVariants.{More, End}
use Rattle.decompressor.specs.Decompressors.{DecompressorState, CanStep, Steps, StepsFrom}
use Rattle.decompressor.proofs.decompressor.Decompressor.step.Goals.{After-step}
use Rattle.decompressor.proofs.decompressor.Decompressor.step.Given.{Over}
use Rattle.decompressor.proofs.decompressor.Decompressor.step.Goals as goal

module _ (g : Over) (c : After-step g) where
  -- no step failed so far
  begun : CanStep c.self.inside.printer
  begun = c.self.invariant (ap (λ (s : DecompressorState). s.ended) c.self.view_is ∙ c.requires)

  -- what is said of the printer's step is said of this one
  says : (step answer : Result Step DecodeFault) → step ≡ answer → StepsFrom c.self.inside.printer c.step.new.self (g.S.Source.left c.args.source.now) (g.S.Source.left c.step.new.source) (g.S.Source.faults c.args.source.now) (g.S.Source.faults c.step.new.source) (g.K.Sink.put c.args.out.now) (g.K.Sink.put c.step.new.out) step
      → StepsFrom c.args.self.now.printer c.step.new.self (g.S.Source.left c.args.source.now) (g.S.Source.left c.step.new.source) (g.S.Source.faults c.args.source.now) (g.S.Source.faults c.step.new.source) (g.K.Sink.put c.args.out.now) (g.K.Sink.put c.step.new.out) answer
  says step answer is so =
      subst (λ (s : DecompressorState). StepsFrom s.printer c.step.new.self (g.S.Source.left c.args.source.now) (g.S.Source.left c.step.new.source) (g.S.Source.faults c.args.source.now) (g.S.Source.faults c.step.new.source) (g.K.Sink.put c.args.out.now) (g.K.Sink.put c.step.new.out) answer) c.self.view_is
      (subst (λ (a : Result Step DecodeFault). StepsFrom c.self.inside.printer c.step.new.self (g.S.Source.left c.args.source.now) (g.S.Source.left c.step.new.source) (g.S.Source.faults c.args.source.now) (g.S.Source.faults c.step.new.source) (g.K.Sink.put c.args.out.now) (g.K.Sink.put c.step.new.out) a) is so)

pub step-requires-clause-printed : goal.step-requires-clause-printed
step-requires-clause-printed g c = c.self.invariant (ap (λ (s : DecompressorState). s.ended) c.self.view_is ∙ c.requires)

pub invariant_of-self : goal.invariant_of-self
invariant_of-self g c =
    let at = (goal.at.invariant_of-self g c).After-step in
    let (taken, text, printed) = begun g at in
    let on = subst (λ (step : Step). Steps c.self.inside.printer c.step.new.self taken text printed (g.S.Source.left c.args.source.now) (g.S.Source.left c.step.new.source) (g.S.Source.faults c.args.source.now) (g.S.Source.faults c.step.new.source) (g.K.Sink.put c.args.out.now) (g.K.Sink.put c.step.new.out) (Ok step)) c.in-Ok-More.field-0-is (c.in-Ok-More.ensures.step taken text printed) in
    λ open_yet. (taken ++ on.0.front, text ++ on.0.more, on.0.after)

pub returns-in-Ok-More-clause-step : goal.returns-in-Ok-More-clause-step
returns-in-Ok-More-clause-step g c = says g (goal.at.returns-in-Ok-More-clause-step g c).After-step _ (Ok More) (ap Ok c.in-Ok-More.field-0-is) c.in-Ok-More.ensures.step

pub returns-in-Ok-More-clause-more : goal.returns-in-Ok-More-clause-more
returns-in-Ok-More-clause-more g c same = ap (λ (s : DecompressorState). s.ended) c.self.view_is ∙ c.requires

pub returns-in-Ok-End-clause-step : goal.returns-in-Ok-End-clause-step
returns-in-Ok-End-clause-step g c = says g (goal.at.returns-in-Ok-End-clause-step g c).After-step _ (Ok (End c.in-Ok-End.report)) (ap Ok c.in-Ok-End.field-0-is) c.in-Ok-End.ensures.step

pub returns-in-Err-clause-step : goal.returns-in-Err-clause-step
returns-in-Err-clause-step g c = says g (goal.at.returns-in-Err-clause-step g c).After-step (Err c.in-Err.fault) (Err c.in-Err.fault) refl c.in-Err.ensures.step
