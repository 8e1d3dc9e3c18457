use Rattle.std.proofs.Common.{◌≡◌, ◌∙◌, ℕ, length, refl, sym, subst, arith}
use Rattle.session_options.proofs.lemmas.VersionLimits.{few_writers}
use Rattle.roaming_consumer.specs.Roamers.{ends_of}
use Rattle.trace_session.specs.Rounds.{IsOverUpTo}
use Rattle.trace_session.proofs.Rounds.{roams_none, roams_then, as_many}
use Rattle.trace_session.proofs.consuming.consume.Goals as goal

pub loop-init : goal.loop-init
loop-init g c = record {
  roams = roams_none _ _ _ _ _ _ _ c.requires.planned c.requires.begun;
  same = refl;
  others = g.met.K.Sink.rest_same _;
}

pub overflow_cast-workplaces : goal.overflow_cast-workplaces
overflow_cast-workplaces g c = omega (arith, c.loop.auto.workplaces, c.requires.known, c.args.roamer.now.few_ends, few_writers c.args.roamer.now.version)

pub visit_all-visits-requires-clause-known : goal.visit_all-visits-requires-clause-known
visit_all-visits-requires-clause-known g c =
    c.loop.auto.workplaces ∙ c.requires.known ∙ sym (as_many g.O.StageOut.pair _ _ c.loop.invariant.roams.same_rings)

pub visit_all-visits-requires-clause-planned : goal.visit_all-visits-requires-clause-planned
visit_all-visits-requires-clause-planned g c = c.loop.invariant.roams.planned

pub visit_all-visits-requires-clause-begun : goal.visit_all-visits-requires-clause-begun
visit_all-visits-requires-clause-begun g c = c.loop.invariant.roams.begun

pub loop-preserved-in-Moved : goal.loop-preserved-in-Moved
loop-preserved-in-Moved g c = record {
  roams = roams_then c.loop.invariant.roams c.visit_all-visits.ensures.roams;
  same = c.take_turns-turns.ensures.same ∙ c.loop.invariant.same;
  others = g.met.K.Sink.rest_then _ _ _ c.loop.invariant.others c.visit_all-visits.ensures.others;
}

pub loop-preserved : goal.loop-preserved
loop-preserved g c = record {
  roams = roams_then c.loop.invariant.roams c.visit_all-visits.ensures.roams;
  same = c.take_turns-turns.ensures.same ∙ c.loop.invariant.same;
  others = g.met.K.Sink.rest_then _ _ _ c.loop.invariant.others c.visit_all-visits.ensures.others;
}

pub returns-in-Over-clause-roams : goal.returns-in-Over-clause-roams
returns-in-Over-clause-roams g c = roams_then c.loop.invariant.roams c.visit_all-visits.ensures.roams

pub returns-in-Over-clause-over : goal.returns-in-Over-clause-over
returns-in-Over-clause-over g c =
    let both = c.with.ensures.0 c.in-Over.is in
    let before = as_many g.O.StageOut.pair _ _ c.loop.invariant.roams.same_rings in
    let after = as_many g.O.StageOut.pair _ _ c.visit_all-visits.ensures.roams.same_rings in
    let all : length c.loop.workplaces ≡ length (ends_of c.visit_all-visits.new.roamer) = c.loop.auto.workplaces ∙ c.requires.known ∙ sym (after ∙ before) in
    subst (λ (n : ℕ). IsOverUpTo g.O.StageOut.ended n c.visit_all-visits.new.roamer) all (c.visit_all-visits.ensures.over both.0)

pub returns-in-Over-clause-same : goal.returns-in-Over-clause-same
returns-in-Over-clause-same g c = c.take_turns-turns.ensures.same ∙ c.loop.invariant.same

pub returns-in-Over-clause-others : goal.returns-in-Over-clause-others
returns-in-Over-clause-others g c = g.met.K.Sink.rest_then _ _ _ c.loop.invariant.others c.visit_all-visits.ensures.others
