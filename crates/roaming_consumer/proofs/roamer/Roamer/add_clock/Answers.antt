use Rattle.std.proofs.Common.{◌≡◌, ◌∷◌, [], ◌++◌, refl, rules}
use Rattle.session_options.proofs.lemmas.RunClocks.{may_have_more}
use Rattle.roaming_consumer.proofs.Additions.{clock_added, first_stays}
use Rattle.roaming_consumer.proofs.roamer.Roamer.add_clock.Goals as goal

pub invariant_of-self-clause-may_have : goal.invariant_of-self-clause-may_have
invariant_of-self-clause-may_have g c =
    let old = c.args.self.now in
    let now : c.add-added.new.self ≡ old.clocks ++ c.args.clock ∷ [] = search rules in
    let may = c.may_take.ensures.0 (search rules) in
    may_have_more old.version old.clocks c.add-added.new.self c.args.clock old.may_have (search rules) may.follows (search rules) now

pub invariant_of-self-clause-first : goal.invariant_of-self-clause-first
invariant_of-self-clause-first g c =
    let old = c.args.self.now in
    let now : c.add-added.new.self ≡ old.clocks ++ c.args.clock ∷ [] = search rules in
    first_stays old.clocks c.add-added.new.self old.clock c.args.clock old.first now

pub returns-clause-stands : goal.returns-clause-stands
returns-clause-stands g c =
    let old = c.args.self.now in
    let now : c.add-added.new.self ≡ old.clocks ++ c.args.clock ∷ [] = search rules in
    clock_added g.S.StageOut.got g.S.StageOut.ended old _ c.args.clock (record { clocks = now; first = refl; messages = refl; version = refl; batch = refl; ends = refl; progress = refl; begun = refl; faulted = refl }) c.if-clock-self.false
