use Rattle.std.proofs.Common.{◌-◌, ◌≤◌, List, take, drop, ap, ◌∙◌}
use Rattle.std.proofs.lemmas.List.Elements.{All-take, All-drop}
use Rattle.log_dictionary.specs.declared.clock.Clock.{Clock}
use Rattle.roaming_consumer.proofs.Due.{due_is}
use Rattle.roaming_consumer.proofs.roamer.Roamer.due.Goals as goal

pub returns-clause-value : goal.returns-clause-value
returns-clause-value g c =
    let roamer = c.args.self.now in
    ap (λ (clocks : List Clock). take (c.max-end.result - roamer.written) (drop roamer.written clocks)) c.as_slice.ensures.value
    ∙ due_is roamer.clocks roamer.written c.args.stamp c.reached.result c.max-end.result c.reached.ensures.value c.max-end.ensures

pub returns-clause-rates : goal.returns-clause-rates
returns-clause-rates g c =
    let roamer = c.args.self.now in
    let P : Clock → Type 0 = λ clock. 1 ≤ clock.rate in
    All-take P (c.max-end.result - roamer.written) (drop roamer.written c.as_slice.result.now) (All-drop P roamer.written c.as_slice.result.now c.as_slice.ensures.clocks.rates)
