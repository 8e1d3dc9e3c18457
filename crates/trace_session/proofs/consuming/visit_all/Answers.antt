use Rattle.std.proofs.Common.{arith, ◌≡◌, ℕ, subst}
use Rattle.trace_session.specs.Rounds.{IsOverUpTo}
use Rattle.trace_session.proofs.Rounds.{roams_none, roams_then, over_none, as_many}
use Rattle.trace_session.proofs.consuming.visit_all.Goals as goal

pub loop-writer-init : goal.loop-writer-init
loop-writer-init g c = record {
  roams = roams_none _ _ _ _ _ _ _ c.requires.planned c.requires.begun;
  over = λ _. over_none _ _;
  others = g.met.K.Sink.rest_same _;
}

pub visit_one-requires-clause-known : goal.visit_one-requires-clause-known
visit_one-requires-clause-known g c =
    let same = as_many g.O.StageOut.pair _ _ c.loop-writer.invariant.roams.same_rings in
    omega (arith, same, c.requires.known, c.loop-writer-test.true)

pub visit_one-requires-clause-planned : goal.visit_one-requires-clause-planned
visit_one-requires-clause-planned g c = c.loop-writer.invariant.roams.planned

pub visit_one-requires-clause-begun : goal.visit_one-requires-clause-begun
visit_one-requires-clause-begun g c = c.loop-writer.invariant.roams.begun

pub loop-writer-preserved : goal.loop-writer-preserved
loop-writer-preserved g c =
    let is = c.loop-writer.invariant in
    let visited = c.visit_one.ensures in
    record {
      roams = roams_then is.roams visited.roams;
      over = λ over. let both = c.with-round.ensures.0 over in visited.over both.1 (is.over both.0);
      others = g.met.K.Sink.rest_then _ _ _ is.others visited.others;
    }

pub returns-clause-roams : goal.returns-clause-roams
returns-clause-roams g c = c.loop-writer.invariant.roams

pub returns-clause-over : goal.returns-clause-over
returns-clause-over g c =
    λ over.
    let last : c.loop-writer.writer ≡ c.args.writers = omega (arith, c.loop-writer-test.false, c.loop-writer.auto.writer-end) in
    subst (λ (n : ℕ). IsOverUpTo g.O.StageOut.ended n c.loop-writer.roamer) last (c.loop-writer.invariant.over over)

pub returns-clause-others : goal.returns-clause-others
returns-clause-others g c = c.loop-writer.invariant.others
