use Rattle.std.proofs.Common.{◌≡◌, ℕ, Bool, false, List, length, get_or, refl, ap, subst, ◌∙◌, arith}
use Rattle.std.specs.Prelude.{All, slice_get}
use Rattle.log_dictionary.specs.declared.clock.Clock.{Clock}
use Rattle.ring_core.specs.Plans.{plan_of}
use Rattle.session_options.proofs.lemmas.RunClocks.{first_tick_is}
use Rattle.roaming_consumer.proofs.Standing.{false_everywhere}
use Rattle.roaming_consumer.proofs.roamer.Roamer.make.Goals as goal

pub invariant_of-result-clause-may_have : goal.invariant_of-result-clause-may_have
invariant_of-result-clause-may_have g c =
    let copy = c.in_ok-copy.ensures in
    record { are = copy.clocks; fit = copy.fit; alone = λ one. ap length copy.value ∙ c.requires.alone one }

pub invariant_of-result-clause-first : goal.invariant_of-result-clause-first
invariant_of-result-clause-first g c = ap (λ (clocks : List Clock). slice_get clocks 0) c.in_ok-copy.ensures.value ∙ c.first.ensures

pub invariant_of-result-clause-few_written : goal.invariant_of-result-clause-few_written
invariant_of-result-clause-few_written g c = c.in_ok-copy.ensures.clocks.some

pub invariant_of-result-clause-each_closed : goal.invariant_of-result-clause-each_closed
invariant_of-result-clause-each_closed g c = omega (arith, c.in_ok-closed.closed.ok.0, c.args.ends.ok.0, c.in_ok-closed.ensures.len, c.len.ensures)

pub returns-clause-planned : goal.returns-clause-planned
returns-clause-planned g c =
    subst (λ (tick : ℕ). All (λ end. g.S.StageOut.plan end ≡ plan_of c.args.dictionary.now tick) c.args.ends.items) (first_tick_is c.args.clocks.now c.first.result c.first.ensures) c.requires.planned

pub returns-clause-stands : goal.returns-clause-stands
returns-clause-stands g c = record {
  nothing = λ unbegun. refl;
  untaken = λ unbegun. c.requires.untaken;
  undefined = λ unbegun. refl;
  unclosed = λ unbegun writer.
      ap (λ (closed : List Bool). get_or closed writer false) (c.in_ok-closed.ensures.items_if_clones_equal (λ y same. same)) ∙ false_everywhere c.len.result writer;
  first_clock = λ unbegun. refl;
  no_stamp = λ unbegun. refl;
  lawful = λ begun unfaulted. absurd (cc begun);
  cut = λ begun faulted. absurd (cc begun);
}
