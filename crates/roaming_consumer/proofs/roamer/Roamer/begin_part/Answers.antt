use Rattle.std.proofs.Common.{◌≡◌, Bool, false, List, [], get_or, refl, ap, ◌∙◌}
use Rattle.roaming_consumer.specs.Parting.{IsAnew}
use Rattle.roaming_consumer.proofs.lemmas.OnePlace.{zip_second}
use Rattle.roaming_consumer.proofs.Holding.{written_back, planned_across}
use Rattle.roaming_consumer.proofs.Standing.{false_everywhere}
use Rattle.roaming_consumer.proofs.roamer.Roamer.begin_part.Goals as goal

pub returns-clause-stands : goal.returns-clause-stands
returns-clause-stands g c = record {
  nothing = λ unbegun. refl;
  untaken = λ unbegun. zip_second (IsAnew g.S.StageOut.got g.S.StageOut.plan) (λ end. g.S.StageOut.got end ≡ []) (λ before after is. is.none) _ _ (written_back (IsAnew g.S.StageOut.got g.S.StageOut.plan) c.args.self.now.ends.items c.deref_mut.result.now c.begin_each.new.ends c.args.self.now.ends.len c.deref_mut.ensures.value c.begin_each.ensures.count c.deref_mut.ensures.len c.begin_each.ensures.anew);
  undefined = λ unbegun. refl;
  unclosed = λ unbegun writer. ap (λ (closed : List Bool). get_or closed writer false) (c.fill.ensures.items (λ y same. same)) ∙ false_everywhere _ writer;
  first_clock = λ unbegun. refl;
  no_stamp = λ unbegun. refl;
  lawful = λ begun unfaulted. absurd (cc begun);
  cut = λ begun faulted. absurd (cc begun);
}

pub returns-clause-planned : goal.returns-clause-planned
returns-clause-planned g c =
    planned_across (IsAnew g.S.StageOut.got g.S.StageOut.plan) g.S.StageOut.plan c.args.self.now _ (λ before after is. is.same_plan) (written_back (IsAnew g.S.StageOut.got g.S.StageOut.plan) c.args.self.now.ends.items c.deref_mut.result.now c.begin_each.new.ends c.args.self.now.ends.len c.deref_mut.ensures.value c.begin_each.ensures.count c.deref_mut.ensures.len c.begin_each.ensures.anew)
